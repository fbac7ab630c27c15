use Rattle.tg_could.proofs.SettledLaws.{along_none, along_same, along_more}
use Rattle.tg_could.proofs.separation.led.LedNames.go_along.Goals as goal

pub loop-edge-preserved : goal.loop-edge-preserved
loop-edge-preserved c =
    along_more c.args.right c.args.y c.args.edges.now c.args.self.now c.loop-edge.self c.put.new.self c.loop-edge.edge-index c.edge-item.result
    c.in-Some.step.forward c.in-Some.step.vertex c.loop-edge.invariant c.loop-edge-test.true c.edge-item.is c.in-Some.ensures.leads
    c.in_ok-put.ensures.put (c.in_ok-put.ensures.more c.in-Some.ensures.new)

pub loop-edge-init : goal.loop-edge-init
loop-edge-init c = along_none c.args.right c.args.y c.args.edges.now c.args.self.now

pub loop-edge-preserved-in_default : goal.loop-edge-preserved-in_default
loop-edge-preserved-in_default c =
    along_same c.args.right c.args.y c.args.edges.now c.args.self.now c.loop-edge.self c.loop-edge.edge-index c.edge-item.result
    c.loop-edge.invariant c.loop-edge-test.true c.edge-item.is c.in_default.ensures.keeps
