use Rattle.std.proofs.Common.{◌≡◌, ℕ, true, false, ◌+◌, ◌-◌, [], length, ap, refl, subst, sym, arith, ◌∙◌, ⊎_elim}
use Rattle.tg_word.specs.declared.Place.{Place}
use Rattle.tg_word.specs.Word.{place_in}
use Rattle.tg_space.specs.SpaceList.{HasCell, cells_of}
use Rattle.tg_space.specs.Soundness.{IsPointer, NamesCell}
use Rattle.tg_space.specs.Rows.{link_at}
use Rattle.tg_space.specs.Targets.{from_space}
use Rattle.tg_evac.specs.Claims.{IsClaimOf, chunk_targets}
use Rattle.tg_evac.proofs.Chunks.{ChunksPassed, all_passed, none_passed, chunks_none, chunks_moved}
use Rattle.tg_evac.proofs.Passing.{claims_refused, moves_as, walk_still}
use Rattle.tg_evac.proofs.Pieces.{wins_chunk, met_chunk}
use Rattle.tg_evac.proofs.Walking.{wins_none}
use Rattle.tg_evac.proofs.walk.Walk.claim_chunks.Goals as goal

pub loop-init : goal.loop-init
loop-init g c =
    let m = g.C.Claimer in let h = c.args.self.spaces.now.spaces in let w = m.walked c.args.claimer.now in
    record {
      pointer = c.requires.link;
      added = wins_none (IsClaimOf h c.args.straight (chunk_targets (from_space w.kind) h (length (cells_of h)) c.args.first)) w;
      grows = λ to agrees. agrees;
      passed = none_passed (from_space w.kind) h (length (cells_of h)) c.args.first w.met;
    }

pub returns-then-link-eq0 : goal.returns-then-link-eq0
returns-then-link-eq0 g c =
    let h = c.args.self.spaces.now.spaces in let from = from_space (g.C.Claimer.walked c.args.claimer.now).kind in let n = length (cells_of h) in
    record {
      added = c.loop.invariant.added;
      grows = c.loop.invariant.grows;
      met = all_passed from h c.loop.invariant.passed (chunks_none from h (n - c.loop.counter) c.loop.link c.if-link-eq0.true);
      full = tt;
    }

pub returns-then-moves : goal.returns-then-moves
returns-then-moves g c =
    let h = c.args.self.spaces.now.spaces in let kind = (g.C.Claimer.walked c.args.claimer.now).kind in let n = length (cells_of h) in
    let moved = moves_as c.place_of-chunk.result c.loop.link c.moves.result true c.requires.walk.table c.place_of-chunk.ensures c.moves.ensures c.if-moves.true in
    record {
      added = c.loop.invariant.added;
      grows = c.loop.invariant.grows;
      met = all_passed (from_space kind) h c.loop.invariant.passed (chunks_moved (from_space kind) h (n - c.loop.counter) c.loop.link moved);
      full = tt;
    }

pub claim_targets-requires : goal.claim_targets-requires
claim_targets-requires g c = record {
  walk = walk_still c.loop.invariant.added c.requires.walk;
  held = subst (HasCell c.args.self.spaces.now.spaces) (sym c.place_of-chunk.ensures) (⊎_elim (λ none. absurd (c.if-link-eq0.false none)) (λ (names : NamesCell c.args.self.spaces.now.spaces c.loop.link). names.held) c.loop.invariant.pointer);
}

pub returns-in_err-claim_targets : goal.returns-in_err-claim_targets
returns-in_err-claim_targets g c =
    let m = g.C.Claimer in let h = c.args.self.spaces.now.spaces in let kind = (m.walked c.args.claimer.now).kind in let n = length (cells_of h) in
    let kept = moves_as c.place_of-chunk.result c.loop.link c.moves.result false c.requires.walk.table c.place_of-chunk.ensures c.moves.ensures c.if-moves.false in
    claims_refused m.walked m.knows m.is_full c.from_residual.result _ c.from_residual.ensures.1
    (wins_chunk h c.args.straight n c.args.first c.loop.counter c.loop.link c.place_of-chunk.result c.place_of-chunk.ensures
    c.loop.invariant.added c.claim_targets.ensures.added c.loop.invariant.passed (omega (arith, c.cells-end.ensures.cells)) c.if-link-eq0.false kept)
    (λ to agrees. c.loop.invariant.grows to (c.claim_targets.ensures.grows to agrees)) c.in_err-claim_targets.ensures.full

pub loop-preserved : goal.loop-preserved
loop-preserved g c =
    let m = g.C.Claimer in let h = c.args.self.spaces.now.spaces in let kind = (m.walked c.args.claimer.now).kind in let n = length (cells_of h) in
    let kept = moves_as c.place_of-chunk.result c.loop.link c.moves.result false c.requires.walk.table c.place_of-chunk.ensures c.moves.ensures c.if-moves.false in
    let held : HasCell h (place_in c.loop.link) = ⊎_elim (λ none. absurd (c.if-link-eq0.false none)) (λ (names : NamesCell h c.loop.link). names.held) c.loop.invariant.pointer in
    let link : link_at h (place_in c.loop.link) ≡ c.read-link.result = ap (λ (p : Place). link_at h p) (sym c.place_of-chunk.ensures) ∙ sym c.read-link.ensures in
    let passed = met_chunk h c.args.straight n c.args.first c.loop.counter c.loop.link c.place_of-chunk.result c.place_of-chunk.ensures
    c.loop.invariant.added c.claim_targets.ensures.added c.loop.invariant.passed (omega (arith, c.cells-end.ensures.cells)) c.if-link-eq0.false kept c.in_ok-claim_targets.ensures.met in
    record {
      pointer = subst (λ (w : ℕ). IsPointer h w) link (c.requires.walk.pointers.links (place_in c.loop.link) held);
      added = wins_chunk h c.args.straight n c.args.first c.loop.counter c.loop.link c.place_of-chunk.result c.place_of-chunk.ensures
          c.loop.invariant.added c.claim_targets.ensures.added c.loop.invariant.passed (omega (arith, c.cells-end.ensures.cells)) c.if-link-eq0.false kept;
      grows = λ to agrees. c.loop.invariant.grows to (c.claim_targets.ensures.grows to agrees);
      passed = subst (λ (w : ℕ). ChunksPassed (from_space kind) h n c.args.first (c.loop.counter + 1) w (m.walked c.claim_targets.new.claimer).met) link passed;
    }

pub returns : goal.returns
returns g c =
    let h = c.args.self.spaces.now.spaces in let from = from_space (g.C.Claimer.walked c.args.claimer.now).kind in let n = length (cells_of h) in
    let none : n - c.loop.counter ≡ 0 = omega (arith, c.cells-end.ensures.cells) in
    let empty : chunk_targets from h 0 c.loop.link ≡ [] = refl in
    record {
      added = c.loop.invariant.added;
      grows = c.loop.invariant.grows;
      met = all_passed from h c.loop.invariant.passed (ap (λ (m : ℕ). chunk_targets from h m c.loop.link) none ∙ empty);
      full = tt;
    }
