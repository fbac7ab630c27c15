-- Where the reference to a name is in a row, or where it may be put.
use Rattle.std.specs.Prelude.{[], ◌≡◌, ℕ, ◌+◌, ◌<◌, ◌&&◌, if◌then◌else◌, ◌==◌, not, Bool, true, List, ◌∷◌, Option, Some, None, length, option_map, position, slice_index, IfSome}
use Rattle.std.specs.Option.{option_or}
use Rattle.tg_rights.specs.RightSet.{RightSet, is_none_held, minus, union}
use Rattle.tg_word.specs.declared.Place.{Place}
use Rattle.tg_word.specs.Word.{IsPlace, link_to, place_in, rights_in, word_at, nursery_space}
use Rattle.tg_block.specs.declared.TheConstants.{LINK, WORDS}
use Rattle.tg_block.specs.Cells.{chunk_tag}
use Rattle.tg_space.specs.SpaceList.{SpaceList, HasCell, cell_at, cells_of, with_cell_at, with_word_at}
use Rattle.tg_space.specs.SpaceTable.{SpaceTable, IsHandedOut, place_in_space, used_of, with_one_used, with_spaces, IsSpaceTable}
use Rattle.tg_remember.specs.Notes.{noted}
use Rattle.tg_nursery.specs.Allocation.{HasRoomLeft, room_made_for}
use Rattle.tg_space.specs.Targets.{first_pointer, young_spaces}
use Rattle.tg_rows.specs.Graph.{IsOutOfCells}
use Rattle.tg_rows.specs.Rows.{IsVertexAt, name_at, name_in, references_of, IsRow}
use Rattle.tg_rows.specs.Steps.{vertex_words}
use Rattle.tg_space.specs.Rows.{chunks_from, link_at, row_of}
use Rattle.tg_rows.specs.declared.rows.Spot.{Spot}
use Rattle.tg_rows.specs.declared.rows.Spot.TheVariants.{Reference, Empty, Full}
use Rattle.tg_word.specs.declared.TheConstants.{MAX_NURSERIES}
use Rattle.tg_rows.specs.Index.{IsRowIndex}
use Rattle.tg_rows.specs.declared.indexed_row.IndexedRow.{IndexedRow}
use Rattle.tg_space.specs.Soundness.{AreSound}

-- the word is a reference to the vertex with this name
abbrev pub refers_to : SpaceList → ℕ → ℕ → Bool
refers_to h name word = not (word == 0) && (name_in h word == name)

abbrev pub is_empty : ℕ → Bool
is_empty word = word == 0

-- a reference of a cell by its number, as the place of a word
abbrev pub word_of_cell : SpaceList → Place → ℕ → Place × ℕ
word_of_cell h q k = (q, first_pointer (slice_index (cell_at h q) 0) + k)

-- the first reference of a cell that passes the test
abbrev pub word_in_cell : (ℕ → Bool) → SpaceList → Place → Option (Place × ℕ)
word_in_cell test h q = option_map (word_of_cell h q) (position test (references_of (cell_at h q)))

-- the first reference of these cells that passes the test
abbrev pub word_where : (ℕ → Bool) → SpaceList → List Place → Option (Place × ℕ)
word_where test h [] = None
word_where test h (q ∷ qs) = option_or (word_in_cell test h q) (word_where test h qs)

-- the last of these cells
abbrev pub last_of : Place → List Place → Place
last_of p [] = p
last_of p (q ∷ qs) = last_of q qs

-- Of a row, the reference to the name; or else its first empty place; or else its last cell.
abbrev pub IsSpotIn : SpaceList → ℕ → Place → List Place → Spot → Type 0
IsSpotIn h name p qs (Reference cell index) = word_where (refers_to h name) h (p ∷ qs) ≡ Some (cell, index)
IsSpotIn h name p qs (Empty cell index) =
    (word_where (refers_to h name) h (p ∷ qs) ≡ None) × (word_where is_empty h (p ∷ qs) ≡ Some (cell, index))
IsSpotIn h name p qs (Full last) =
    (word_where (refers_to h name) h (p ∷ qs) ≡ None) × (word_where is_empty h (p ∷ qs) ≡ None) × (last_of p qs ≡ last)

-- the empty place, if there is one, or else the last cell
abbrev pub spot_for_new : Option (Place × ℕ) → Place → Spot
spot_for_new None last = Full last
spot_for_new (Some e) last = Empty e.0 e.1

-- the same, of the row of the object at a place
abbrev pub IsSpotFor : SpaceList → ℕ → Place → Spot → Type 0
IsSpotFor h name p spot = IsSpotIn h name p (chunks_from h (length (cells_of h)) (link_at h p)) spot

-- ---- what is written

-- how many cells a new reference takes
abbrev pub cells_for : Spot → ℕ
cells_for (Reference cell index) = 0
cells_for (Empty cell index) = 0
cells_for (Full last) = 1

-- the cell, if it is in Old and the answer is wanted
abbrev pub old_cell_if : Bool → Place → Option Place
old_cell_if wanted cell = if wanted && not (young_spaces cell.space) then Some cell else None

-- The cell of Old that names a young one once a reference was put here, if there is one: the reference may name a young
-- cell, and a link to a new chunk always does.
abbrev pub note_for : Spot → Bool → Option Place
note_for (Reference cell index) young = None
note_for (Empty cell index) young = old_cell_if young cell
note_for (Full last) young = old_cell_if true last

-- the places once this cell was noted, if there is one
abbrev pub with_note : List Place → Option Place → List Place
with_note places None = places
with_note places (Some cell) = noted places cell

-- the cell, if there is one, is noted once rights are put in the row of the object at a place
pub record IsNoteIn (h : SpaceList) (from : Place) (note : Option Place) : Type 0 where
  pub name : ℕ
  pub spot : Spot
  pub young : Bool
  pub found : IsSpotFor h name from spot
  pub is : note ≡ note_for spot young

-- a chunk with one reference
abbrev pub chunk_words : ℕ → List ℕ
chunk_words word = chunk_tag ∷ word ∷ 0 ∷ 0 ∷ 0 ∷ 0 ∷ 0 ∷ 0 ∷ []

-- a word written
abbrev pub word_put : SpaceTable → Place → ℕ → ℕ → SpaceTable
word_put t cell index word = with_spaces t (with_word_at t.spaces cell index word)

-- the reference with more rights, and with fewer: the empty word where none is left
abbrev pub widened : ℕ → RightSet → ℕ
widened word rights = word_at (union (rights_in word) rights) (place_in word)

abbrev pub narrowed : ℕ → RightSet → ℕ
narrowed word rights =
    if is_none_held (minus (rights_in word) rights) then 0 else word_at (minus (rights_in word) rights) (place_in word)

-- the next cell of a nursery is a chunk with this reference, to which the last cell of a row links
abbrev pub chunk_put : SpaceTable → ℕ → Place → ℕ → SpaceTable
chunk_put t space last word =
    let chunk = place_in_space space (used_of t space) in
    with_spaces (with_one_used t space) (with_word_at (with_cell_at t.spaces chunk (chunk_words word)) last LINK (link_to chunk))

-- The table once rights over the object at a place were put where they go: the reference gets them too, or else the
-- empty place gets a reference with them, or else a new chunk from this nursery.
abbrev pub table_put : SpaceTable → ℕ → Spot → RightSet → Place → SpaceTable
table_put t space (Reference cell index) rights to = word_put t cell index (widened (slice_index (cell_at t.spaces cell) index) rights)
table_put t space (Empty cell index) rights to = word_put t cell index (word_at rights to)
table_put t space (Full last) rights to = chunk_put t space last (word_at rights to)

-- Rights over the object at a place were put where they go in the row of another: nothing else was written, there is a
-- new block only where a chunk needed one, and the written cell is noted where it is in Old and then names a young one.
pub record IsPutInRow (old new : SpaceTable) (places later : List Place) (space : ℕ) (from to : Place) (rights : RightSet) : Type 0 where
  pub spot : Spot
  pub found : IsSpotFor old.spaces (name_at old.spaces to) from spot
  pub put : new ≡ table_put (room_made_for old space (cells_for spot)) space spot rights to
  pub noted : later ≡ with_note places (note_for spot (young_spaces to.space))

-- the next cell of a nursery is an object with this name and an empty row
abbrev pub vertex_put : SpaceTable → ℕ → ℕ → ℕ → SpaceTable
vertex_put t space name key =
    with_spaces (with_one_used t space) (with_cell_at t.spaces (place_in_space space (used_of t space)) (vertex_words name key))

-- A vertex was made for the holder, and rights over it were put where they go in the holder's row: its object is the next
-- cell of the nursery, nothing else was written, and there is a new block only where the cells left were too few.
pub record IsMadeInRow (old new : SpaceTable) (places later : List Place) (space holder name : ℕ) (rights : RightSet) : Type 0 where
  pub row : Place
  pub held : IsVertexAt old.spaces holder row
  pub spot : Spot
  pub found : IsSpotFor old.spaces name row spot
  pub key : ℕ
  pub put : new ≡ table_put (vertex_put (room_made_for old space (1 + cells_for spot)) space name key) space spot rights (place_in_space space (used_of old space))
  pub noted : later ≡ with_note places (note_for spot true)

-- The table once rights were taken where they stand: the reference has the others, or is the empty word where none is left. Where
-- there is no reference nothing is written.
abbrev pub table_taken : SpaceTable → Spot → RightSet → SpaceTable
table_taken t (Reference cell index) rights = word_put t cell index (narrowed (slice_index (cell_at t.spaces cell) index) rights)
table_taken t (Empty cell index) rights = t
table_taken t (Full last) rights = t

-- Rights over the vertex with a name were taken where they are in the row of the object at a place, and nothing else was written: a
-- reference that has none left leaves an empty place, and each chunk stays where it was linked.
pub record IsTakenFromRow (old new : SpaceTable) (from : Place) (name : ℕ) (rights : RightSet) : Type 0 where
  pub spot : Spot
  pub found : IsSpotFor old.spaces name from spot
  pub taken : new ≡ table_taken old spot rights

-- ---- where cells lack

-- Rights of the holder over the vertex with a name go where, with so many others, more cells are needed than the nursery
-- has left, and it gets no more blocks.
pub record LacksCellsFor (t : SpaceTable) (space others holder name : ℕ) : Type 0 where
  pub row : Place
  pub held : IsVertexAt t.spaces holder row
  pub spot : Spot
  pub found : IsSpotFor t.spaces name row spot
  pub out : IsOutOfCells t space (others + cells_for spot)

-- ---- conditions

-- a word of a cell may be written
pub record CanWrite (t : SpaceTable) (cell : Place) (index : ℕ) : Type 0 where
  pub held : HasCell t.spaces cell
  pub inside : index < WORDS
  pub handed_out : IsHandedOut t cell

-- a word of a cell that is a reference may be written
pub record CanRewrite (t : SpaceTable) (cell : Place) (index : ℕ) : Type 0 where
  pub can : CanWrite t cell index
  pub place : IsPlace (place_in (slice_index (cell_at t.spaces cell) index))

-- a chunk may come after the last cell of a row
pub record CanExtend (t : SpaceTable) (n : ℕ) (last : Place) : Type 0 where
  pub few : n < MAX_NURSERIES
  pub nursery : nursery_space n < length t.spaces
  pub last_can : CanWrite t last LINK
  pub left : HasRoomLeft t (nursery_space n) 1

-- rights may be put where they go
abbrev pub CanPut : SpaceTable → ℕ → Spot → Type 0
CanPut t space (Reference cell index) = CanRewrite t cell index
CanPut t space (Empty cell index) = CanWrite t cell index
CanPut t space (Full last) = CanWrite t last LINK × HasRoomLeft t space 1

-- rights over the object at a place may be put where they go in a row, with a chunk from a nursery if one is needed
pub record CanPutRights (t : SpaceTable) (n : ℕ) (spot : Spot) (to : Place) : Type 0 where
  pub few : n < MAX_NURSERIES
  pub nursery : nursery_space n < length t.spaces
  pub can : CanPut t (nursery_space n) spot
  pub place : IsPlace to

-- ---- walks

-- the number of the first word that passes the test, if one does
pub record IsPositionIn (test : ℕ → Bool) (words : List ℕ) (result : Option ℕ) : Type 0 where
  pub is : result ≡ position test words
  pub inside : IfSome result (λ k. k < length words)

-- the row of an object of sound cells
pub record IsSoundRow (h : SpaceList) (p : Place) : Type 0 where
  pub sound : AreSound h []
  pub row : IsRow h p

-- the same, and this is its index
pub record IsSoundIndex (h : SpaceList) (p : Place) (indexed : IndexedRow) : Type 0 where
  pub sound : AreSound h []
  pub row : IsRow h p
  pub index : IsRowIndex h p indexed.names indexed.cells.items

-- the same, and the row has no reference to the name
pub record IsSoundIndexWithout (h : SpaceList) (p : Place) (name : ℕ) (indexed : IndexedRow) : Type 0 where
  pub row : IsSoundIndex h p indexed
  pub absent : word_where (refers_to h name) h (row_of h p) ≡ None

-- the spot for a name in the row of an object, beside what holds of all spaces
pub record IsSpotOf (t : SpaceTable) (p : Place) (name : ℕ) (found : Spot) : Type 0 where
  pub table : IsSpaceTable t
  pub spot : IsSpotFor t.spaces name p found
