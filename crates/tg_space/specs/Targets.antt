-- What the cells of a heap name, and what the copy of a cell is.
use Rattle.std.specs.Prelude.{◌≡◌, ℕ, ◌==◌, ◌++◌, if◌then◌else◌, Bool, true, not, List, [], ◌∷◌, take, drop, map, slice_index, slice_index_or}
use Rattle.std.specs.List.{flat_map, take_while}
use Rattle.tg_word.specs.declared.Place.{Place}
use Rattle.tg_word.specs.Word.{place_in, rights_in, word_at}
use Rattle.tg_block.specs.declared.TheConstants.{CHUNK_POINTERS, OBJECT_POINTERS, WORDS}
use Rattle.tg_block.specs.Cells.{object_tag, chunk_tag}
use Rattle.tg_space.specs.SpaceList.{SpaceList, cell_at, flat_of, cells_of}
use Rattle.tg_space.specs.Rows.{row_of}
use Rattle.tg_space.specs.declared.kind.Kind.{Kind}
use Rattle.tg_space.specs.declared.kind.Kind.TheVariants.{Full, Nursery}
use Rattle.tg_space.specs.declared.root.Root.{Root}
use Rattle.tg_space.specs.declared.root.Root.TheVariants.{Row, Remembered}

-- From-space, the spaces whose cells a collection moves, is a test of the space's number. A full collection moves all
-- cells, a nursery collection those of Aged and of the nurseries.
abbrev pub every_space : ℕ → Bool
every_space space = true

abbrev pub young_spaces : ℕ → Bool
young_spaces space = not (space == 0)

abbrev pub from_space : Kind → ℕ → Bool
from_space Full = every_space
from_space Nursery = young_spaces

-- the words of the cell with a number
abbrev pub cell_numbered : SpaceList → ℕ → List ℕ
cell_numbered h number = slice_index_or (cells_of h) number []

-- where an object's references and link begin, and a chunk's
abbrev pub first_pointer : ℕ → ℕ
first_pointer tag = if tag == object_tag then OBJECT_POINTERS else (if tag == chunk_tag then CHUNK_POINTERS else WORDS)

-- the references and the link of a cell
abbrev pub pointers_of : List ℕ → List ℕ
pointers_of words = drop (first_pointer (slice_index words 0)) words

-- ---- targets

-- the number of the cell in from-space that a word names, if it names one
abbrev pub target_in : (ℕ → Bool) → SpaceList → ℕ → List ℕ
target_in from h word =
    if word == 0 then []
    else (if from (place_in word).space then flat_of h (place_in word) ∷ [] else [])

-- the numbers of the cells in from-space that these words name
abbrev pub named_by : (ℕ → Bool) → SpaceList → List ℕ → List ℕ
named_by from h words = flat_map (target_in from h) words

-- the targets of the cell with a number
abbrev pub targets_of : (ℕ → Bool) → SpaceList → ℕ → List ℕ
targets_of from h number = named_by from h (pointers_of (cell_numbered h number))

-- the targets of the cell at a place
abbrev pub targets_at : (ℕ → Bool) → SpaceList → Place → List ℕ
targets_at from h p = named_by from h (pointers_of (cell_at h p))

-- the cells of a row that are met along its links before one that is in from-space
abbrev pub cells_followed : (ℕ → Bool) → SpaceList → Place → List Place
cells_followed from h p = take_while (λ q. not (from q.space)) (row_of h p)

-- The targets of a root. A row whose object is in from-space has that one cell; any other has the targets of the cells
-- that are met. A remembered cell has its own targets.
abbrev pub root_targets_of : (ℕ → Bool) → SpaceList → Root → List ℕ
root_targets_of from h (Row place) =
    if from place.space then flat_of h place ∷ [] else flat_map (targets_at from h) (cells_followed from h place)
root_targets_of from h (Remembered place) = targets_at from h place

-- the targets of all roots
abbrev pub all_root_targets : (ℕ → Bool) → SpaceList → List Root → List ℕ
all_root_targets from h roots = flat_map (root_targets_of from h) roots

-- ---- images under a map from the cells of from-space to new places

-- the word with its place replaced by the new place of the cell that it names, where that cell is in from-space
abbrev pub moved_word : (ℕ → Bool) → SpaceList → (ℕ → Place) → ℕ → ℕ
moved_word from h to word =
    if word == 0 then 0
    else (if from (place_in word).space then word_at (rights_in word) (to (flat_of h (place_in word))) else word)

-- the copy of a cell: its references and its link are moved, and all else is equal
abbrev pub image_of : (ℕ → Bool) → SpaceList → (ℕ → Place) → List ℕ → List ℕ
image_of from h to words =
    let first = first_pointer (slice_index words 0) in take first words ++ map (moved_word from h to) (drop first words)

-- these words are the copy of the cell with a number
abbrev pub IsImage : (ℕ → Bool) → SpaceList → (ℕ → Place) → ℕ → List ℕ → Type 0
IsImage from h to number words = words ≡ image_of from h to (cell_numbered h number)
