use Rattle.std.proofs.Common.{◌≡◌, take}
use Rattle.tg_graph.specs.Heap.{content_of}
use Rattle.tg_store.specs.Inner.Reaching.{edges_over}
use Rattle.tg_store.proofs.store.holders.edges_of_each.Given as goal

-- the edges of the vertices before this one
abbrev pub invariant-loop-vertex : goal.invariant-loop-vertex
invariant-loop-vertex g l = l.edges.items ≡ edges_over (content_of l.heap).label l.name (take l.vertex-index l.vertices)
