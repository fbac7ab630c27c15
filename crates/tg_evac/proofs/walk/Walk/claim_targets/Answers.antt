use Rattle.std.proofs.Common.{List, ℕ, drop, subst, sym}
use Rattle.tg_space.specs.Soundness.{IsPointer}
use Rattle.tg_space.specs.Targets.{from_space, named_by, pointers_of}
use Rattle.std.specs.List.{All}
use Rattle.tg_evac.specs.Walks.{ClaimsAll}
use Rattle.tg_evac.proofs.walk.Walk.claim_targets.Goals as goal

pub move_from-requires-clause-may : goal.move_from-requires-clause-may
move_from-requires-clause-may g c =
    let h = c.args.self.spaces.now.spaces in
    let words = subst (λ (ws : List ℕ). All (IsPointer h) (pointers_of ws)) (sym c.words.ensures.words) (c.requires.walk.pointers.words c.args.place c.requires.held) in
    record { pointers = subst (λ (n : ℕ). All (IsPointer h) (drop n c.words.result.now)) (sym c.first_pointer-first.ensures.word) words; table = c.requires.walk.table }

pub returns : goal.returns
returns g c =
    let m = g.C.Claimer in let h = c.args.self.spaces.now.spaces in let from = from_space (m.walked c.args.claimer.now).kind in
    let first = subst (λ (n : ℕ). ClaimsAll m.walked m.knows m.is_full h c.args.straight (named_by from h (drop n c.words.result.now)) c.args.claimer.now c.move_from.new.claimer c.move_from.result) c.first_pointer-first.ensures.word c.move_from.ensures.claims in
    subst (λ (ws : List ℕ). ClaimsAll m.walked m.knows m.is_full h c.args.straight (named_by from h (pointers_of ws)) c.args.claimer.now c.move_from.new.claimer c.move_from.result) c.words.ensures.words first
