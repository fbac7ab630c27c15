use Rattle.std.proofs.Common.{◌≡◌, take}
use Rattle.tg_graph.specs.Heap.{content_of}
use Rattle.tg_store.specs.Inner.Reaching.{names_found}
use Rattle.tg_store.proofs.SavedLaws.{values_shown}
use Rattle.tg_store.proofs.store.snapshot.values_of.Given as goal

-- the vertices before this one are shown
abbrev pub invariant-loop-vertex : goal.invariant-loop-vertex
invariant-loop-vertex g l = l.shown.items ≡ values_shown (content_of l.heap) (names_found (take l.vertex-index l.vertices))
