use Rattle.std.proofs.Common.{ℕ, ◌<◌}
use Rattle.tg_snapshot.specs.Snapshot.{IsEdgeLine}
use Rattle.tg_snapshot.proofs.check.first_bad_edge.Given as goal

-- all before this place are as asked
abbrev pub invariant-loop-at : goal.invariant-loop-at
invariant-loop-at l = (k : ℕ) → k < l.at → IsEdgeLine l.vertices l.edges k
