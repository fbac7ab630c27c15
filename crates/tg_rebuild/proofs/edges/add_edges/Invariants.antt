use Rattle.std.proofs.Common.{take}
use Rattle.tg_model.specs.Opened.{label_in}
use Rattle.tg_rows.specs.Content.{IsContent, IsNamed}
use Rattle.tg_graph.specs.Heap.{KeepsPlaces, content_of}
use Rattle.tg_rebuild.proofs.edges.add_edges.Given as goal

-- the edges so far were added
abbrev pub invariant-loop-edge : goal.invariant-loop-edge
invariant-loop-edge g l = record {
  content : IsContent (content_of l.heap) (IsNamed (content_of l.fn.heap)) (label_in (take l.edge-index l.edges)) (content_of l.fn.heap).value;
  kept : KeepsPlaces l.fn.heap l.heap;
}
