use Rattle.std.proofs.Common.{◌≡◌, ◌<◌, ◌≤◌, ◌⊎◌, ℕ, length}
use Rattle.tg_block.specs.Cells.{cell_of, free_cell}
use Rattle.tg_space.proofs.next_block.emptied.Given as goal

abbrev pub invariant-loop-at : goal.invariant-loop-at
invariant-loop-at l = record {
  long : length l.cells.items ≡ 64;
  free : (k : ℕ) → (k < l.at) ⊎ (l.fn.used ≤ k) → k < 64 → cell_of l.cells.items k ≡ free_cell;
}
