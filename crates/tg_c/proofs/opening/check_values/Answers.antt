use Rattle.std.proofs.Common.{◌<◌, ap, subst, length, arith, is_some}
use Rattle.std.proofs.lemmas.List.{get_or_default}
use Rattle.std.proofs.lemmas.List.Elements.{AllWithin-more}
use Rattle.std.specs.Option.{IsSome}
use Rattle.tg_c.specs.Forms.{value_at}
use Rattle.tg_c.proofs.opening.check_values.Goals as goal

pub loop-worker-preserved : goal.loop-worker-preserved
loop-worker-preserved c =
    let low : c.loop-worker.worker-index < length c.args.workers.now = omega arith in
    let some = ap (λ o. is_some o) c.in_ok-payload.ensures.value in
    AllWithin-more (λ v. IsSome (value_at v)) c.args.workers.now 0 c.loop-worker.worker-index c.loop-worker.invariant
    (λ d. subst (λ v. IsSome (value_at v)) (get_or_default c.args.workers.now c.loop-worker.worker-index _ d low) some)
