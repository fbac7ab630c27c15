use Rattle.std.proofs.Common.{take}
use Rattle.tg_graph.specs.Heap.{KeepsPlaces, content_of}
use Rattle.tg_store.specs.Inner.Parking.{IsGiven}
use Rattle.tg_store.proofs.pouring.pour.Given as goal

-- the edges before this one were given
abbrev pub invariant-loop-edge : goal.invariant-loop-edge
invariant-loop-edge g l = record {
  given : IsGiven (content_of l.initial.heap) (content_of l.heap) l.pouring.to.name (take l.edge-index l.row);
  kept : KeepsPlaces l.initial.heap l.heap;
}
