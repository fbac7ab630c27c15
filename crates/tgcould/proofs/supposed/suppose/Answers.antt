use Rattle.std.proofs.Common.{sym, subst}
use Rattle.tg_model.specs.Picture.{IsPictureOf}
use Rattle.tgcould.proofs.SupposedLaws.{supposed_all, supposed_more, with_none}
use Rattle.tgcould.proofs.supposed.suppose.Goals as goal

pub loop-edge-init : goal.loop-edge-init
loop-edge-init c = λ g picture made. subst (IsPictureOf c.args.picture) (sym (with_none g)) picture

pub loop-edge-preserved : goal.loop-edge-preserved
loop-edge-preserved c =
    λ g picture made.
    supposed_more c.loop-edge.supposed c.in_ok-supposed.supposed g c.args.edges.now c.loop-edge.edge-index c.edge-item.result c.loop-edge-test.true c.edge-item.is
    made c.in_ok-supposed.ensures (c.loop-edge.invariant g picture made)

pub returns : goal.returns
returns c =
    λ g picture made. supposed_all c.loop-edge.supposed g c.args.edges.now c.loop-edge.edge-index c.loop-edge-test.false (c.loop-edge.invariant g picture made)
