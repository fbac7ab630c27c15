use Rattle.std.proofs.Common.{◌≡◌, ℕ, take}
use Rattle.tg_graph.specs.Heap.{content_of}
use Rattle.tg_store.specs.Inner.Reaching.{AreBelow, names_found}
use Rattle.tg_store.proofs.SavedLaws.{edges_shown}
use Rattle.tg_store.proofs.store.snapshot.edges_of.Given as goal

-- the edges of the vertices before this one are shown
abbrev pub invariant-loop-vertex : goal.invariant-loop-vertex
invariant-loop-vertex g l = (made : ℕ) → AreBelow (content_of l.heap) made → l.edges.items ≡ edges_shown (content_of l.heap) made (names_found (take l.vertex-index l.vertices))
