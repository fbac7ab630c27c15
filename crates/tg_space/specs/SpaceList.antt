-- The cells of a heap as lists: a list of spaces, each a list of blocks, each a list of cells, each a list of words.
use Rattle.std.specs.Prelude.{◌≡◌, ℕ, ◌+◌, ◌*◌, ◌<◌, ◌≤◌, List, [], ◌∷◌, ◌++◌, length, take, slice_index_or, slice_set}
use Rattle.std.specs.List.{All, flat_map, sum_by}
use Rattle.tg_word.specs.declared.Place.{Place}
use Rattle.tg_word.specs.declared.TheConstants.{SPACES, CELLS, MOST_SPACE_BLOCKS}
use Rattle.tg_block.specs.Cells.{IsBlock, cell_of, with_word, free_block}

abbrev pub BlockList : Type 0
BlockList = List (List (List ℕ))

abbrev pub SpaceList : Type 0
SpaceList = List (List (List (List ℕ)))

-- a space has at most 1,048,576 blocks
abbrev pub IsSpace : BlockList → Type 0
IsSpace blocks = (length blocks ≤ MOST_SPACE_BLOCKS) × All IsBlock blocks

-- there are no more spaces than a heap can have
pub record IsSpaceList (h : SpaceList) : Type 0 where
  pub few : length h ≤ SPACES
  pub spaces : All IsSpace h

abbrev pub space_of : SpaceList → ℕ → BlockList
space_of h space = slice_index_or h space []

abbrev pub block_of : SpaceList → ℕ → ℕ → List (List ℕ)
block_of h space block = slice_index_or (space_of h space) block []

-- the place names a cell
pub record HasCell (h : SpaceList) (p : Place) : Type 0 where
  pub space : p.space < length h
  pub block : p.block < length (space_of h p.space)
  pub cell : p.cell < CELLS

-- the words of the cell that the place names
abbrev pub cell_at : SpaceList → Place → List ℕ
cell_at h p = cell_of (block_of h p.space p.block) p.cell

-- ---- flat numbers

-- how many blocks are before a space
abbrev pub blocks_before : SpaceList → ℕ → ℕ
blocks_before h space = sum_by (λ blocks. length blocks) (take space h)

-- how many blocks all spaces have
abbrev pub block_count : SpaceList → ℕ
block_count h = sum_by (λ blocks. length blocks) h

-- the number of the cell: Old's cells first, then space by space, block by block, 64 cells a block
abbrev pub flat_of : SpaceList → Place → ℕ
flat_of h p = CELLS * (blocks_before h p.space + p.block) + p.cell

-- the cells of all spaces, one after the other
abbrev pub cells_of : SpaceList → List (List ℕ)
cells_of h = flat_map (λ blocks. flat_map (λ block. block) blocks) h

-- ---- spaces with no block

-- the spaces from a number on have no block
pub record IsEmptyFrom (first : ℕ) (h : SpaceList) : Type 0 where
  pub inside : first ≤ length h
  pub empty : (space : ℕ) → first ≤ space → space_of h space ≡ []

-- ---- changes

-- one word changed
abbrev pub with_word_at : SpaceList → Place → ℕ → ℕ → SpaceList
with_word_at h p i word =
    slice_set h p.space (slice_set (space_of h p.space) p.block (with_word (block_of h p.space p.block) p.cell i word))

-- all words of one cell changed
abbrev pub with_cell_at : SpaceList → Place → List ℕ → SpaceList
with_cell_at h p words =
    slice_set h p.space (slice_set (space_of h p.space) p.block (slice_set (block_of h p.space p.block) p.cell words))

-- one more block of free cells at the end of a space
abbrev pub with_block : SpaceList → ℕ → SpaceList
with_block h space = slice_set h space (space_of h space ++ free_block ∷ [])
