use Rattle.std.proofs.Common.{ℕ, ap, subst, sym, ◌∙◌}
use Rattle.std.proofs.lemmas.Result.{on_ok_weaker}
use Rattle.tg_space.specs.Soundness.{IsPointer}
use Rattle.tg_space.specs.Targets.{from_space}
use Rattle.tg_space.specs.declared.kind.Kind.{Kind}
use Rattle.tg_evac.proofs.Passing.{claims_refused, walk_still}
use Rattle.tg_evac.proofs.Pieces.{row_first, row_both, row_met}
use Rattle.tg_evac.proofs.walk.Walk.claim_from_row.Goals as goal

pub returns-in_err-claim_targets : goal.returns-in_err-claim_targets
returns-in_err-claim_targets g c =
    let m = g.C.Claimer in
    let kept = ap (λ (k : Kind). from_space k c.args.object.space) c.requires.walk.table.same ∙ c.requires.kept in
    claims_refused m.walked m.knows m.is_full c.from_residual.result _ c.from_residual.ensures.1 (row_first c.args.self.spaces.now.spaces c.args.straight c.args.object kept c.claim_targets.ensures.added)
    c.claim_targets.ensures.grows c.in_err-claim_targets.ensures.full

pub claim_chunks-requires : goal.claim_chunks-requires
claim_chunks-requires g c = record { walk = walk_still c.claim_targets.ensures.added c.requires.walk; link = subst (λ (n : ℕ). IsPointer c.args.self.spaces.now.spaces n) (sym c.read.ensures) (c.requires.walk.pointers.links c.args.object c.requires.held) }

pub returns : goal.returns
returns g c =
    let h = c.args.self.spaces.now.spaces in
    let kept = ap (λ (k : Kind). from_space k c.args.object.space) c.requires.walk.table.same ∙ c.requires.kept in
    let two = rw c.read.ensures at c.claim_chunks.ensures.added in
    let rest = rw c.read.ensures at c.claim_chunks.ensures.met in
    record {
      added = row_both h c.args.straight c.args.object kept c.claim_targets.ensures.added two;
      grows = λ to agrees. c.claim_targets.ensures.grows to (c.claim_chunks.ensures.grows to agrees);
      met = on_ok_weaker c.claim_chunks.result (row_met h c.args.straight c.args.object kept c.claim_targets.ensures.added two c.in_ok-claim_targets.ensures.met) rest;
      full = c.claim_chunks.ensures.full;
    }
