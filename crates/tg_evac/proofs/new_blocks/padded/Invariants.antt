use Rattle.std.proofs.Common.{◌≡◌, ◌≤◌, ◌-◌, ◌++◌, List, ℕ, length, replicate}
use Rattle.std.specs.List.{All}
use Rattle.tg_block.specs.Cells.{free_cell}
use Rattle.tg_evac.proofs.new_blocks.padded.Given as goal

abbrev pub invariant-loop-cells : goal.invariant-loop-cells
invariant-loop-cells l = record {
  longer : length l.initial.cells.items ≤ length l.cells.items;
  few : length l.cells.items ≤ 64;
  words : All (λ (words : List ℕ). length words ≡ 8) l.cells.items;
  cells : l.cells.items ≡ l.initial.cells.items ++ replicate (length l.cells.items - length l.initial.cells.items) free_cell;
}

abbrev pub decreases-loop-cells : goal.decreases-loop-cells
decreases-loop-cells l = 64 - length l.cells.items
