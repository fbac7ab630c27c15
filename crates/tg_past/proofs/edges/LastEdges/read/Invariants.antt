use Rattle.std.proofs.Common.{◌≤◌, drop, length}
use Rattle.tg_past.specs.Inner.{Finishes}
use Rattle.tg_past.proofs.edges.LastEdges.read.Given as goal

abbrev pub invariant-backwards : goal.invariant-backwards
invariant-backwards l = (l.left ≤ length l.entries) × Finishes l.self (drop l.left l.entries)

abbrev pub decreases-backwards : goal.decreases-backwards
decreases-backwards l = l.left
