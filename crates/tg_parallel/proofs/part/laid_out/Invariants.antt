use Rattle.std.proofs.Common.{◌≡◌, ◌<◌, ℕ, ◌≤◌, length, take, drop, get_or, vec_capacity}
use Rattle.tg_block.specs.Cells.{free_block}
use Rattle.tg_parallel.specs.Parts.{numbers_of}
use Rattle.tg_parallel.specs.Seats.{block_at}
use Rattle.tg_parallel.proofs.part.laid_out.Given as goal

abbrev pub invariant-loop-number : goal.invariant-loop-number
invariant-loop-number l = record {
  long : length l.laid.items ≡ l.number-index;
  room : length l.numbers ≤ vec_capacity l.laid;
  numbered : numbers_of l.laid.items ≡ take l.number-index l.numbers;
  each : (i : ℕ) → i < l.number-index → block_at l.laid.items i ≡ get_or l.fn.blocks i free_block;
  rest : l.blocks.rest.items ≡ drop l.number-index l.fn.blocks;
}
