use Rattle.std.proofs.Common.{◌≡◌, ◌+◌, ◌++◌, map, take}
use Rattle.tg_model.specs.Graph.{ProtectionGraph}
use Rattle.tg_journal.specs.History.{IsLegal, graph_after}
use Rattle.tg_graph.specs.Heap.{KeepsPlaces, content_of}
use Rattle.tg_graph.specs.Standing.{IsContentOf}
use Rattle.tg_store.specs.Withdrawing.{removal_over}
use Rattle.tg_store.proofs.store.withdrawal.enter_removals.Given as goal

-- what comes before this one in the list was given up
abbrev pub invariant-loop-removed : goal.invariant-loop-removed
invariant-loop-removed g l = record {
  entries : l.journal.entries ≡ l.initial.journal.entries ++ map (removal_over l.target) (take l.removed-index l.removals);
  start : l.journal.start ≡ l.initial.journal.start;
  spare : l.journal.spare + l.removed-index ≡ l.initial.journal.spare;
  kept : KeepsPlaces l.initial.heap l.heap;
  stands : (h : ProtectionGraph) → IsContentOf (content_of l.initial.heap) h → IsLegal h (map (removal_over l.target) (take l.removed-index l.removals)) →
      IsContentOf (content_of l.heap) (graph_after h (map (removal_over l.target) (take l.removed-index l.removals)));
}
