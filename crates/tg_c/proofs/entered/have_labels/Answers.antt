use Rattle.std.proofs.Common.{◌<◌, ap, subst, length, arith, is_some}
use Rattle.std.proofs.lemmas.List.{get_or_default}
use Rattle.std.proofs.lemmas.List.Elements.{AllWithin-more}
use Rattle.std.specs.Option.{IsSome}
use Rattle.tg_c.specs.Forms.{label_at}
use Rattle.tg_c.proofs.entered.have_labels.Goals as goal

pub loop-edge-preserved : goal.loop-edge-preserved
loop-edge-preserved c =
    let low : c.loop-edge.edge-index < length c.args.edges.now = omega arith in
    let some = ap (λ o. is_some o) c.in-Ok.ensures.label in
    AllWithin-more (λ e. IsSome (label_at e.rights)) c.args.edges.now 0 c.loop-edge.edge-index c.loop-edge.invariant
    (λ d. subst (λ e. IsSome (label_at e.rights)) (get_or_default c.args.edges.now c.loop-edge.edge-index _ d low) some)
