use Rattle.tg_could.proofs.SettledLaws.{GoesAlong}
use Rattle.tg_could.proofs.separation.led.LedNames.go_along.Given as goal

abbrev pub invariant-loop-edge : goal.invariant-loop-edge
invariant-loop-edge l = GoesAlong l.right l.y l.edges l.fn.self l.self l.edge-index
