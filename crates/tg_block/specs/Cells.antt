-- A block: CELLS cells of WORDS words.
use Rattle.std.specs.Prelude.{◌≡◌, ℕ, Bool, ◌==◌, if◌then◌else◌, List, [], length, replicate, slice_index, slice_index_or, slice_set}
use Rattle.std.specs.List.{All, list_all}
use Rattle.tg_word.specs.declared.TheConstants.{CELLS}
use Rattle.tg_block.specs.declared.TheConstants.{WORDS, OBJECT_TAG, CHUNK_TAG}
use Rattle.tg_block.specs.declared.CellKind.{CellKind}
use Rattle.tg_block.specs.declared.CellKind.TheVariants.{Free, Object, Chunk, Bad}

-- as many cells as a block has, each with as many words as a cell has
abbrev pub IsBlock : List (List ℕ) → Type 0
IsBlock cells = (length cells ≡ CELLS) × All (λ words. length words ≡ WORDS) cells

abbrev pub cell_of : List (List ℕ) → ℕ → List ℕ
cell_of cells cell = slice_index_or cells cell []

-- one word changed
abbrev pub with_word : List (List ℕ) → ℕ → ℕ → ℕ → List (List ℕ)
with_word cells cell i word = slice_set cells cell (slice_set (cell_of cells cell) i word)

abbrev pub free_cell : List ℕ
free_cell = replicate WORDS 0

abbrev pub free_block : List (List ℕ)
free_block = replicate CELLS free_cell

abbrev pub all_are_zero : List ℕ → Bool
all_are_zero words = list_all (λ word. word == 0) words

-- the first words of an object and of a chunk
abbrev pub object_tag : ℕ
object_tag = OBJECT_TAG

abbrev pub chunk_tag : ℕ
chunk_tag = CHUNK_TAG

-- what a cell is, by its first word; a cell whose first word is 0 is free only where all words are
abbrev pub kind_of : List ℕ → CellKind
kind_of words =
    let tag = slice_index words 0 in
    if tag == 0 then (if all_are_zero words then Free else Bad)
    else (if tag == object_tag then Object else (if tag == chunk_tag then Chunk else Bad))
