use Rattle.std.proofs.Common.{◌≡◌, ◌+◌, ◌++◌, map, take}
use Rattle.tg_model.specs.Graph.{ProtectionGraph}
use Rattle.tg_journal.specs.History.{IsLegal, graph_after}
use Rattle.tg_graph.specs.Heap.{KeepsPlaces, content_of}
use Rattle.tg_graph.specs.Standing.{IsContentOf}
use Rattle.tg_store.specs.Leaving.{removal}
use Rattle.tg_store.proofs.leaving.leave_heap.Given as goal

-- the edges before this one were given up
abbrev pub invariant-loop-edge : goal.invariant-loop-edge
invariant-loop-edge g l = record {
  entries : l.journal.entries ≡ l.initial.journal.entries ++ map (removal l.subject.name) (take l.edge-index l.edge-items);
  start : l.journal.start ≡ l.initial.journal.start;
  spare : l.journal.spare + l.edge-index ≡ l.initial.journal.spare;
  kept : KeepsPlaces l.initial.heap l.heap;
  stands : (h : ProtectionGraph) → IsContentOf (content_of l.initial.heap) h → IsLegal h (map (removal l.subject.name) (take l.edge-index l.edge-items)) →
      IsContentOf (content_of l.heap) (graph_after h (map (removal l.subject.name) (take l.edge-index l.edge-items)));
}
