-- The numbers of the cells of a heap as they were before a collection, and what it makes of words and places by them.
use Rattle.std.specs.Prelude.{◌≡◌, ℕ, ◌+◌, ◌*◌, ◌<◌, ◌≤◌, ◌^◌, ◌==◌, ◌⊎◌, if◌then◌else◌, Bool, List, length, slice_index}
use Rattle.tg_word.specs.declared.Place.{Place}
use Rattle.tg_word.specs.declared.TheConstants.{CELLS}
use Rattle.tg_word.specs.Word.{place_in, rights_in, word_at}
use Rattle.tg_space.specs.SpaceList.{SpaceList, IsSpaceList, blocks_before, cells_of, flat_of}

-- the number of blocks before each space
abbrev pub AreStarts : List ℕ → SpaceList → Type 0
AreStarts starts h = (length h ≤ length starts) × ((space : ℕ) → space < length h → slice_index starts space ≡ blocks_before h space)

-- the number of the cell at a place, where so many blocks are before each space
abbrev pub number_by : List ℕ → Place → ℕ
number_by starts p = CELLS * (slice_index starts p.space + p.block) + p.cell

-- the place has a number, which is below the number of words, and these are no more than numbers go
pub record IsNumbered (starts : List ℕ) (words : ℕ) (p : Place) : Type 0 where
  pub space : p.space < length starts
  pub inside : number_by starts p < words
  pub few : words ≤ 2 ^ 64

-- where a collection has the cell at a place: those of from-space are moved, and the place in the word of its number is where to
abbrev pub followed_place : (ℕ → Bool) → List ℕ → (ℕ → Place) → Place → Place
followed_place from starts to p = if from p.space then to (number_by starts p) else p

-- the word of a cell, once it is one of where a collection has the cell
abbrev pub followed_word : (ℕ → Bool) → List ℕ → List ℕ → ℕ → ℕ
followed_word from starts forward word = if from (place_in word).space then slice_index forward (number_by starts (place_in word)) else word

-- where a collection has the cell of a place: those of from-space are moved
abbrev pub moved_place : (ℕ → Bool) → SpaceList → (ℕ → Place) → Place → Place
moved_place from h to p = if from p.space then to (flat_of h p) else p

-- These are the numbers of the heap's cells, and as many words.
pub record AreNumbersOf (h : SpaceList) (starts : List ℕ) (words : ℕ) : Type 0 where
  pub before : AreStarts starts h
  pub spaces : IsSpaceList h
  pub whole : words ≡ length (cells_of h)

-- a word that names no cell, or one with a number
abbrev pub NamesNumbered : List ℕ → ℕ → ℕ → Type 0
NamesNumbered starts words word = (word ≡ 0) ⊎ IsNumbered starts words (place_in word)

-- the word with its place replaced by the new place of the cell that it names, where that cell is in from-space
abbrev pub renamed_word : (ℕ → Bool) → List ℕ → (ℕ → Place) → ℕ → ℕ
renamed_word from starts to word =
    if word == 0 then 0
    else (if from (place_in word).space then word_at (rights_in word) (to (number_by starts (place_in word))) else word)
