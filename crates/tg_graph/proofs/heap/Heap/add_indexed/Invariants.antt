use Rattle.std.proofs.Common.{◌-◌, ◌≤◌, take}
use Rattle.tg_graph.specs.Heap.{AddsRoots}
use Rattle.tg_graph.proofs.Starts.{all_targets}
use Rattle.tg_graph.proofs.heap.Heap.add_indexed.Given as goal

abbrev pub invariant-loop-number : goal.invariant-loop-number
invariant-loop-number g l = record {
  added : AddsRoots l.self.table.spaces (all_targets l.self.table.spaces (take l.from l.row.cells.items)) l.fn.roots.items l.roots.items;
  low : l.from ≤ l.row.old_cells;
}

abbrev pub decreases-loop-number : goal.decreases-loop-number
decreases-loop-number g l = l.row.old_cells - l.from
