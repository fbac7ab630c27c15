use Rattle.std.proofs.Common.{◌≡◌, take}
use Rattle.tg_graph.specs.Heap.{content_of}
use Rattle.tg_store.specs.Inner.Reaching.{edges_over}
use Rattle.tg_store.specs.Inner.Withdrawing.{content_left}
use Rattle.tg_store.proofs.store.withdrawal.Withdrawal.edges_after.Given as goal

-- the edges that are left of the vertices before this one
abbrev pub invariant-loop-vertex : goal.invariant-loop-vertex
invariant-loop-vertex g l = l.edges.items ≡ edges_over (content_left l.self (content_of l.heap)).label l.self.target (take l.vertex-index l.vertices)
