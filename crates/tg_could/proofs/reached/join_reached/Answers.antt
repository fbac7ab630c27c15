use Rattle.std.proofs.Common.{◌∙◌, ◌<◌, length, refl, subst, arith}
use Rattle.std.proofs.lemmas.List.{get_or_default}
use Rattle.std.proofs.lemmas.List.Elements.{AllWithin-more}
use Rattle.tg_could.specs.Reached.{JoinsReached}
use Rattle.tg_could.proofs.reached.join_reached.Goals as goal

pub loop-edge-preserved : goal.loop-edge-preserved
loop-edge-preserved c g picture =
    let low : c.loop-edge.edge-index < length c.args.edges.now = omega arith in
    AllWithin-more (JoinsReached g) c.args.edges.now 0 c.loop-edge.edge-index (c.loop-edge.invariant g picture)
    (λ d. subst (JoinsReached g) (c.edge-item.is ∙ get_or_default c.args.edges.now c.loop-edge.edge-index c.edge-item.result d low) ((c.joins_reached.ensures g picture).0 c.if-not-joins_reached.false))

pub returns : goal.returns
returns c g picture = (λ _ k d inside. c.loop-edge.invariant g picture k d (omega arith) (omega (arith, inside)), λ _. refl)
