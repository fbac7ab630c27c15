use Rattle.std.proofs.Common.{◌∙◌, ◌<◌, length, refl, subst, arith}
use Rattle.std.proofs.lemmas.List.{get_or_default}
use Rattle.std.proofs.lemmas.List.Elements.{AllWithin-more}
use Rattle.tg_c.specs.View.{JoinsSeen}
use Rattle.tg_c.proofs.view.sight.Sight.join_seen.Goals as goal

pub loop-edge-preserved : goal.loop-edge-preserved
loop-edge-preserved c =
    let low : c.loop-edge.edge-index < length c.args.edges.now = omega arith in
    AllWithin-more (JoinsSeen c.args.self.now.seen) c.args.edges.now 0 c.loop-edge.edge-index c.loop-edge.invariant
    (λ d. subst (JoinsSeen c.args.self.now.seen) (c.edge-item.is ∙ get_or_default c.args.edges.now c.loop-edge.edge-index c.edge-item.result d low)
    (c.joins_seen.ensures.0 c.if-not-joins_seen.false))

pub returns : goal.returns
returns c = (λ _ k d inside. c.loop-edge.invariant k d (omega arith) (omega (arith, inside)), λ _. refl)
