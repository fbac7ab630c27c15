-- An open block that is full.
use Rattle.std.specs.Prelude.{◌≡◌, ℕ, ◌<◌, List, [], ◌∷◌, ◌++◌, length, Result, OnOk}
use Rattle.std.specs.declared.vec.Vec.{Vec}
use Rattle.tg_word.specs.declared.TheConstants.{MOST_SPACE_BLOCKS}
use Rattle.tg_block.specs.Cells.{IsBlock}
use Rattle.tg_space.specs.SpaceList.{BlockList}
use Rattle.tg_evac.specs.Copies.{HaveOpenBlock}

-- it may be after the full ones
pub record MayCloseBlock {A : Type 0} (full : BlockList) (last : Vec (List ℕ) A) : Type 0 where
  pub whole : IsBlock last.items
  pub opened : HaveOpenBlock full last
  pub room : length full < MOST_SPACE_BLOCKS

-- it is there, and the open one has no cell
pub record HasClosed {A T E : Type 0} (full : BlockList) (last : Vec (List ℕ) A) (full_after : BlockList) (last_after : Vec (List ℕ) A) (result : Result T E) : Type 0 where
  pub opened : HaveOpenBlock full_after last_after
  pub behind : OnOk result (full_after ≡ full ++ last.items ∷ [])
  pub empty : OnOk result (last_after.items ≡ [])
