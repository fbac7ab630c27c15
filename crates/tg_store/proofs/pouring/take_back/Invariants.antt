use Rattle.std.proofs.Common.{take}
use Rattle.tg_graph.specs.Heap.{KeepsPlaces, content_of}
use Rattle.tg_store.specs.Inner.Parking.{IsTakenBack}
use Rattle.tg_store.proofs.pouring.take_back.Given as goal

-- the edges before this one were taken back
abbrev pub invariant-loop-edge : goal.invariant-loop-edge
invariant-loop-edge g l = record {
  taken : IsTakenBack (content_of l.initial.heap) (content_of l.heap) l.from.name (take l.edge-index l.row);
  kept : KeepsPlaces l.initial.heap l.heap;
}
