use Rattle.std.proofs.Common.{◌≡◌, ◌<◌, ℕ, true, ap, refl, subst, sym, ◌∙◌}
use Rattle.std.specs.List.{Contains}
use Rattle.tg_space.specs.SpaceList.{flat_of}
use Rattle.tg_space.specs.Targets.{from_space, root_targets_of}
use Rattle.tg_space.specs.declared.kind.Kind.{Kind}
use Rattle.tg_space.specs.declared.root.Root.TheVariants.{Row}
use Rattle.tg_evac.proofs.Behind.{moved_behind}
use Rattle.tg_evac.proofs.OneCell.{claims_one, goes_to_two, met_one}
use Rattle.tg_evac.proofs.Passing.{claims_refused}
use Rattle.tg_evac.proofs.walk.Walk.claim_row.Goals as goal

pub claim-requires : goal.claim-requires
claim-requires g c =
    let h = c.args.self.spaces.now.spaces in let kind = (g.C.Claimer.walked c.args.claimer.now).kind in
    let moves = ap (λ (k : Kind). from_space k c.args.object.space) c.requires.walk.table.same ∙ sym c.moves.ensures ∙ c.if-moves.true in
    record {
      inside = subst (λ (n : ℕ). c.flat.result < n) (sym c.requires.walk.table.whole) c.flat.ensures.inside;
      moved = rw (c.requires.walk.table.kept, c.flat.ensures.flat) (moved_behind kind h c.args.object c.requires.held moves);
      two = subst (λ (n : ℕ). n < 2) (sym c.space_for.ensures) (goes_to_two c.args.straight c.args.object.space);
    }

pub returns-in_err-claim : goal.returns-in_err-claim
returns-in_err-claim g c =
    let m = g.C.Claimer in let h = c.args.self.spaces.now.spaces in let from = from_space (m.walked c.args.claimer.now).kind in let object = c.args.object in
    let moves : from object.space ≡ true = ap (λ (k : Kind). from_space k object.space) c.requires.walk.table.same ∙ sym c.moves.ensures ∙ c.if-moves.true in
    claims_refused m.walked m.knows m.is_full c.from_residual.result _ c.from_residual.ensures.1
    (claims_one h c.args.straight object c.flat.result c.space_for.result (root_targets_of from h (Row object)) c.requires.held c.flat.ensures.flat c.space_for.ensures (rw moves refl) c.claim.ensures.added)
    c.claim.ensures.grows c.in_err-claim.ensures.full

pub returns-then-moves : goal.returns-then-moves
returns-then-moves g c =
    let m = g.C.Claimer in let h = c.args.self.spaces.now.spaces in let from = from_space (m.walked c.args.claimer.now).kind in let object = c.args.object in
    let moves : from object.space ≡ true = ap (λ (k : Kind). from_space k object.space) c.requires.walk.table.same ∙ sym c.moves.ensures ∙ c.if-moves.true in
    record {
      added = claims_one h c.args.straight object c.flat.result c.space_for.result (root_targets_of from h (Row object)) c.requires.held c.flat.ensures.flat c.space_for.ensures (rw moves refl) c.claim.ensures.added;
      grows = c.claim.ensures.grows;
      met = met_one (Contains (m.walked c.claim.new.self).met) (flat_of h object) (root_targets_of from h (Row object)) (rw moves refl)
          (subst (λ (n : ℕ). Contains (m.walked c.claim.new.self).met n) c.flat.ensures.flat c.in_ok-claim.ensures.met);
      full = tt;
    }
