-- What contracts see of `Spaces`: the cells, how many cells of each nursery were handed out, and the limits.
use Rattle.std.specs.Prelude.{◌≡◌, ℕ, ◌+◌, ◌-◌, ◌*◌, ◌/◌, ◌%◌, ◌<◌, ◌≤◌, ◌⊎◌, List, [], ◌∷◌, ◌++◌, length, replicate, slice_index, slice_index_or, slice_set}
use Rattle.std.specs.List.{All}
use Rattle.tg_word.specs.declared.Place.{Place}
use Rattle.tg_word.specs.declared.TheConstants.{SPACES, CELLS, MOST_SPACE_BLOCKS}
use Rattle.tg_word.specs.Word.{nursery_space}
use Rattle.tg_block.specs.Cells.{cell_of, free_cell}
use Rattle.tg_space.specs.declared.limits.TheConstants.{MOST_LARGE_BLOCKS}
use Rattle.tg_space.specs.SpaceList.{SpaceList, BlockList, IsSpace, HasCell, space_of, cell_at, blocks_before, block_count}
use Rattle.tg_space.specs.declared.kind.Kind.{Kind}
use Rattle.tg_space.specs.declared.kind.Kind.TheVariants.{Full, Nursery}

-- how many blocks all spaces, and how many one space may have
pub record BlockLimits : Type 0 where
  pub max_blocks : ℕ
  pub space_blocks : ℕ

abbrev pub limits_of : ℕ → ℕ → BlockLimits
limits_of max_blocks space_blocks = record { max_blocks = max_blocks; space_blocks = space_blocks }

-- at most so many blocks in all and 1,048,576 in one space, and at least one
pub record AreLimitsTo (most : ℕ) (l : BlockLimits) : Type 0 where
  pub some_blocks : 1 ≤ l.max_blocks
  pub few_blocks : l.max_blocks ≤ most
  pub some_in_space : 1 ≤ l.space_blocks
  pub few_in_space : l.space_blocks ≤ MOST_SPACE_BLOCKS

-- the limits of any heap: at most 1,048,576 blocks in all
abbrev pub AreLimits : BlockLimits → Type 0
AreLimits l = AreLimitsTo MOST_LARGE_BLOCKS l

pub record SpaceTable : Type 0 where
  pub spaces : SpaceList
  pub used : List ℕ
  pub limits : BlockLimits

-- space 0 is Old, space 1 is Aged, and each other one is a nursery
abbrev pub IsNursery : SpaceTable → ℕ → Type 0
IsNursery t space = (2 ≤ space) × (space < length t.spaces)

-- how many cells of a nursery were handed out
abbrev pub used_of : SpaceTable → ℕ → ℕ
used_of t space = slice_index t.used space

-- the number of a cell in its space
abbrev pub number_in_space : Place → ℕ
number_in_space p = CELLS * p.block + p.cell

-- the cell of a space with a number
abbrev pub place_in_space : ℕ → ℕ → Place
place_in_space space number = record { space = space; block = number / CELLS; cell = number % CELLS }

-- a cell of a nursery that was handed out; a cell of Old or Aged needs no handing out
abbrev pub IsHandedOut : SpaceTable → Place → Type 0
IsHandedOut t p = 2 ≤ p.space → number_in_space p < used_of t p.space

-- the first cells of a space were handed out, so many, and the others are free
pub record IsFreeBehind (used : ℕ) (blocks : BlockList) : Type 0 where
  pub within : used ≤ CELLS * length blocks
  pub free : (block cell : ℕ) → block < length blocks → cell < CELLS → used ≤ CELLS * block + cell → cell_of (slice_index_or blocks block []) cell ≡ free_cell

-- what is so of the value of every `Spaces`
pub record IsSpaceTable (t : SpaceTable) : Type 0 where
  -- Old, Aged and at least one nursery
  pub enough : 3 ≤ length t.spaces
  pub few : length t.spaces ≤ SPACES
  pub blocks : All IsSpace t.spaces
  -- a count for each space, which stays within its cells
  pub counted : length t.used ≡ length t.spaces
  pub within : (space : ℕ) → space < length t.spaces → used_of t space ≤ CELLS * length (space_of t.spaces space)
  -- a cell of a nursery that was not handed out is free
  pub fresh : (p : Place) → HasCell t.spaces p → 2 ≤ p.space → used_of t p.space ≤ number_in_space p → cell_at t.spaces p ≡ free_cell

-- the number of blocks before each space, and before the end
pub record IsPrefixCount (starts : List ℕ) (h : SpaceList) : Type 0 where
  pub long : length starts ≡ length h + 1
  pub counts : (space : ℕ) → space ≤ length h → slice_index starts space ≡ blocks_before h space

-- a space gets no more blocks: all spaces together have as many as they may, or this one has
abbrev pub IsFull : SpaceTable → ℕ → Type 0
IsFull t space =
    (t.limits.max_blocks ≤ block_count t.spaces) ⊎ (t.limits.space_blocks ≤ length (space_of t.spaces space))

-- ---- changes

-- so many nurseries, and no block anywhere
abbrev pub no_blocks : ℕ → BlockLimits → SpaceTable
no_blocks nurseries limits = record { spaces = replicate (nursery_space nurseries) []; used = replicate (nursery_space nurseries) 0; limits = limits }

abbrev pub with_spaces : SpaceTable → SpaceList → SpaceTable
with_spaces t h = record { spaces = h; used = t.used; limits = t.limits }

-- one more cell of a nursery is handed out
abbrev pub with_one_used : SpaceTable → ℕ → SpaceTable
with_one_used t space = record { spaces = t.spaces; used = slice_set t.used space (used_of t space + 1); limits = t.limits }

-- The spaces once a collection has put its new blocks of Aged and of Old in the place of those that it emptied. After a
-- full one Old is its new blocks, and all other spaces are empty. After a nursery collection Old is followed by the new
-- ones, Aged is its new ones, and the nurseries are empty.
abbrev pub adopted : Kind → SpaceList → BlockList → BlockList → SpaceList
adopted Full h aged old = old ∷ replicate (length h - 1) []
adopted Nursery h aged old = (space_of h 0 ++ old) ∷ aged ∷ replicate (length h - 2) []

abbrev pub with_adopted : SpaceTable → Kind → BlockList → BlockList → SpaceTable
with_adopted t kind aged old = record { spaces = adopted kind t.spaces aged old; used = replicate (length t.spaces) 0; limits = t.limits }

-- how many blocks of Old stay where they are, in front of the new ones
abbrev pub kept_blocks : Kind → SpaceList → ℕ
kept_blocks Full h = 0
kept_blocks Nursery h = length (space_of h 0)
