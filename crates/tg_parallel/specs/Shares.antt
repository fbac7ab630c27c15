-- How many of the spare blocks a helper may be handed.
use Rattle.std.specs.Prelude.{ℕ, ◌+◌, ◌*◌, ◌≤◌, length}
use Rattle.tg_word.specs.declared.TheConstants.{CELLS}
use Rattle.tg_space.specs.SpaceList.{SpaceList, cells_of}
use Rattle.tg_space.specs.SpaceTable.{kept_blocks}
use Rattle.tg_space.specs.declared.kind.Kind.{Kind}

-- A helper may come to fill so many blocks, or more: it wins some of the cells that may move, for Aged and for Old, and its blocks
-- of a space are full but for the last, which it has opened and may leave empty (so `AreFilled` has them).
pub record MayFill (kind : Kind) (h : SpaceList) (blocks : ℕ) : Type 0 where
  pub aged_won : ℕ
  pub old_won : ℕ
  pub few : CELLS * kept_blocks kind h + (aged_won + old_won) ≤ length (cells_of h)
  pub aged : ℕ
  pub old : ℕ
  pub aged_full : CELLS * aged ≤ aged_won + CELLS
  pub old_full : CELLS * old ≤ old_won + CELLS
  pub all : blocks ≤ aged + old

-- so many it may fill, and no more
pub record IsMostFilled (kind : Kind) (h : SpaceList) (most : ℕ) : Type 0 where
  pub may : MayFill kind h most
  pub none_more : (blocks : ℕ) → MayFill kind h blocks → blocks ≤ most
