-- What an allocation does.
use Rattle.std.specs.Prelude.{◌≡◌, ◌≤◌, ◌+◌, ◌*◌, ◌⊎◌, ℕ, ◌<◌, nat_lt, if◌then◌else◌, length, slice_set}
use Rattle.tg_word.specs.declared.TheConstants.{CELLS}
use Rattle.tg_word.specs.declared.Place.{Place}
use Rattle.tg_block.specs.Cells.{free_cell}
use Rattle.tg_space.specs.SpaceList.{HasCell, cell_at, space_of, with_block}
use Rattle.tg_space.specs.SpaceTable.{SpaceTable, IsHandedOut, number_in_space, used_of, with_spaces}

-- each cell of a nursery was handed out
abbrev pub IsUsedUp : SpaceTable → ℕ → Type 0
IsUsedUp t space = CELLS * length (space_of t.spaces space) ≤ used_of t space

-- the table with one more block in a nursery that is used up, and else as it is
abbrev pub room_made : SpaceTable → ℕ → SpaceTable
room_made t space =
    if nat_lt (used_of t space) (CELLS * length (space_of t.spaces space)) then t
    else with_spaces t (with_block t.spaces space)

-- a fresh free cell of a nursery was allocated, and nothing else changed
pub record Allocates (old new : SpaceTable) (space : ℕ) (p : Place) : Type 0 where
  pub nursery : p.space ≡ space
  pub held : HasCell new.spaces p
  pub free : cell_at new.spaces p ≡ free_cell
  -- it wasn't handed out before, and is now
  pub fresh : used_of old space ≤ number_in_space p
  pub handed_out : IsHandedOut new p
  -- each cell stays as it was, and each new one is free
  pub kept : (q : Place) → HasCell old.spaces q → HasCell new.spaces q × (cell_at new.spaces q ≡ cell_at old.spaces q)
  pub added : (q : Place) → HasCell new.spaces q → HasCell old.spaces q ⊎ (cell_at new.spaces q ≡ free_cell)
  -- one more cell of this nursery is handed out
  pub counted : new.used ≡ slice_set old.used space (used_of old space + 1)
  pub limits : new.limits ≡ old.limits

-- ---- room for several cells

-- fewer cells of a nursery than this many are left
abbrev pub HasFewerLeft : SpaceTable → ℕ → ℕ → Type 0
HasFewerLeft t space cells = CELLS * length (space_of t.spaces space) < used_of t space + cells

-- so many cells of a nursery are left
abbrev pub HasRoomLeft : SpaceTable → ℕ → ℕ → Type 0
HasRoomLeft t space cells = used_of t space + cells ≤ CELLS * length (space_of t.spaces space)

-- the table with one more block in a nursery that has fewer cells left, and else as it is
abbrev pub room_made_for : SpaceTable → ℕ → ℕ → SpaceTable
room_made_for t space cells =
    if nat_lt (CELLS * length (space_of t.spaces space)) (used_of t space + cells) then with_spaces t (with_block t.spaces space)
    else t
