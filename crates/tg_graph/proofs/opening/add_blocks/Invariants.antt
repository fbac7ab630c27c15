use Rattle.std.proofs.Common.{◌≡◌, ◌<◌, ◌≤◌, ℕ, length}
use Rattle.tg_word.specs.Word.{nursery_space}
use Rattle.tg_word.specs.declared.Place.{Place}
use Rattle.tg_word.specs.declared.TheConstants.{SPACES}
use Rattle.tg_block.specs.Cells.{free_cell}
use Rattle.tg_space.specs.SpaceList.{HasCell, block_count, cell_at, space_of}
use Rattle.tg_space.specs.SpaceTable.{IsSpaceTable}
use Rattle.tg_graph.proofs.opening.add_blocks.Given as goal

abbrev pub invariant-loop-worker : goal.invariant-loop-worker
invariant-loop-worker l = record {
  table : 0 < l.worker → IsSpaceTable l.spaces;
  spaces : SPACES ≤ length l.spaces.spaces;
  used : l.spaces.used ≡ l.initial.spaces.used;
  limits : l.spaces.limits ≡ l.initial.spaces.limits;
  done : (x : ℕ) → x < l.worker → 1 ≤ length (space_of l.spaces.spaces (nursery_space x));
  left : (x : ℕ) → l.worker ≤ x → length (space_of l.spaces.spaces (nursery_space x)) ≡ 0;
  old : length (space_of l.spaces.spaces 0) ≡ 0;
  count : block_count l.spaces.spaces ≤ l.worker;
  free : (p : Place) → HasCell l.spaces.spaces p → cell_at l.spaces.spaces p ≡ free_cell;
}
