use Rattle.std.proofs.Common.{arith, ◌≡◌, ◌<◌, ◌∙◌, ℕ, true, ap, subst, sym, ⊎_elim}
use Rattle.std.specs.List.{Contains}
use Rattle.tg_word.specs.declared.Place.{Place}
use Rattle.tg_word.specs.Word.{place_in}
use Rattle.tg_space.specs.SpaceList.{HasCell, flat_of}
use Rattle.tg_space.specs.Soundness.{NamesCell}
use Rattle.tg_space.specs.Targets.{from_space, target_in}
use Rattle.tg_evac.specs.Claims.{space_for}
use Rattle.tg_evac.proofs.OneCell.{claims_one, goes_to_two, met_one, one_moved, one_target}
use Rattle.tg_evac.proofs.Behind.{moved_behind}
use Rattle.tg_evac.proofs.Passing.{claims_refused, moves_as}
use Rattle.tg_evac.proofs.walk.Walk.move_word.Goals as goal

pub returns-in_err-link-clause-claims : goal.returns-in_err-link-clause-claims
returns-in_err-link-clause-claims g c =
    let m = g.C.Claimer in let h = c.args.self.spaces.now.spaces in let kind = (m.walked c.args.claimer.now).kind in let word = c.args.word.now in let some = c.if-old-eq0.false in
    let moves : from_space kind (place_in word).space ≡ true = moves_as c.place_of-space.result word c.moves.result true c.requires.table c.place_of-space.ensures c.moves.ensures c.if-not-moves.false in
    let held : HasCell h (place_in word) = ⊎_elim (λ none. absurd (some none)) (λ (names : NamesCell h word). names.held) c.requires.pointer in
    claims_refused m.walked m.knows m.is_full c.from_residual.result _ c.from_residual.ensures.1
    (claims_one h c.args.straight (place_in word) c.target_of.result c.space_for.result (target_in (from_space kind) h word) held c.target_of.ensures.flat
    (c.space_for.ensures ∙ ap (λ (p : Place). space_for c.args.straight p.space) c.place_of-space.ensures) (one_target (from_space kind) h word some moves) c.claim.ensures.added)
    c.claim.ensures.grows c.in_err-link.ensures.full

pub returns-clause-claims : goal.returns-clause-claims
returns-clause-claims g c =
    let m = g.C.Claimer in let h = c.args.self.spaces.now.spaces in let kind = (m.walked c.args.claimer.now).kind in let word = c.args.word.now in let some = c.if-old-eq0.false in
    let moves : from_space kind (place_in word).space ≡ true = moves_as c.place_of-space.result word c.moves.result true c.requires.table c.place_of-space.ensures c.moves.ensures c.if-not-moves.false in
    let held : HasCell h (place_in word) = ⊎_elim (λ none. absurd (some none)) (λ (names : NamesCell h word). names.held) c.requires.pointer in
    let met = (m.walked c.claim.new.self).met in
    record {
      added = claims_one h c.args.straight (place_in word) c.target_of.result c.space_for.result (target_in (from_space kind) h word) held c.target_of.ensures.flat
          (c.space_for.ensures ∙ ap (λ (p : Place). space_for c.args.straight p.space) c.place_of-space.ensures) (one_target (from_space kind) h word some moves) c.claim.ensures.added;
      grows = c.claim.ensures.grows;
      met = met_one (Contains met) (flat_of h (place_in word)) (target_in (from_space kind) h word) (one_target (from_space kind) h word some moves)
          (subst (λ (n : ℕ). Contains met n) c.target_of.ensures.flat c.in_ok-link.ensures.met);
      full = tt;
    }

pub returns-clause-word : goal.returns-clause-word
returns-clause-word g c =
    λ to knows.
    let h = c.args.self.spaces.now.spaces in let kind = (g.C.Claimer.walked c.args.claimer.now).kind in let word = c.args.word.now in
    let moves : from_space kind (place_in word).space ≡ true = moves_as c.place_of-space.result word c.moves.result true c.requires.table c.place_of-space.ensures c.moves.ensures c.if-not-moves.false in
    let goes : to (flat_of h (place_in word)) ≡ place_in c.in_ok-link.link = ap to (sym c.target_of.ensures.flat) ∙ c.in_ok-link.ensures.known to knows in
    c.with_rights.ensures ∙ one_moved (from_space kind) h to word (place_in c.in_ok-link.link) c.if-old-eq0.false moves goes

pub claim-requires : goal.claim-requires
claim-requires g c =
    let h = c.args.self.spaces.now.spaces in let kind = (g.C.Claimer.walked c.args.claimer.now).kind in let word = c.args.word.now in
    let moves : from_space kind (place_in word).space ≡ true = moves_as c.place_of-space.result word c.moves.result true c.requires.table c.place_of-space.ensures c.moves.ensures c.if-not-moves.false in
    let held : HasCell h (place_in word) = ⊎_elim (λ none. absurd (c.if-old-eq0.false none)) (λ (names : NamesCell h word). names.held) c.requires.pointer in
    let low = moved_behind kind h (place_in word) held moves in
    let kept = c.requires.table.kept in
    let flat = c.target_of.ensures.flat in
    record {
      inside = subst (λ (n : ℕ). c.target_of.result < n) (sym c.requires.table.whole) c.target_of.ensures.inside;
      moved = omega (arith, low, kept, flat);
      two = subst (λ (n : ℕ). n < 2) (sym c.space_for.ensures) (goes_to_two c.args.straight c.place_of-space.result.space);
    }
