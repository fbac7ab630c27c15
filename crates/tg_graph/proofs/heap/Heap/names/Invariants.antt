use Rattle.std.proofs.Common.{◌≡◌, ◌≤◌, length, take}
use Rattle.tg_space.specs.SpaceList.{cells_of}
use Rattle.tg_graph.specs.Shown.{shown_in}
use Rattle.tg_graph.proofs.NamesShown.{names_of}
use Rattle.tg_graph.proofs.heap.Heap.names.Given as goal

abbrev pub invariant-loop-number : goal.invariant-loop-number
invariant-loop-number g l = record {
  few : l.count ≤ l.number;
  count : l.count ≡ length (names_of (take l.number (cells_of l.spaces.spaces)));
  shown : l.into ≡ shown_in (names_of (take l.number (cells_of l.spaces.spaces))) l.fn.into;
}
