-- What the index of a row is of the row's words.
use Rattle.std.specs.Prelude.{[], ◌≡◌, ◌≢◌, ℕ, ◌+◌, ◌*◌, ◌<◌, ◌≤◌, ◌==◌, if◌then◌else◌, List, Option, Some, None, false, true, map, length, nat_eq, slice_get, slice_index, slice_index_or, take, is_some, IsSome, IsTrue, ◌⊎◌, Bool}
use Rattle.std.specs.List.{All, Contains, filter}
use Rattle.tg_word.specs.declared.Place.{Place}
use Rattle.tg_word.specs.Word.{place_in}
use Rattle.tg_space.specs.SpaceList.{SpaceList}
use Rattle.tg_space.specs.Numbering.{IsNumbered, followed_place, number_by}
use Rattle.tg_space.specs.Targets.{from_space}
use Rattle.tg_space.specs.Collection.{new_place}
use Rattle.tg_space.specs.declared.kind.Kind.{Kind}
use Rattle.tg_space.specs.declared.kind.Kind.TheVariants.{Full as FullKind, Nursery}
use Rattle.tg_block.specs.declared.CellKind.TheVariants.{Object}
use Rattle.tg_space.specs.Rows.{row_of}
use Rattle.tg_space.specs.Soundness.{IsKindAt}
use Rattle.tg_index.specs.Bits.{bit_in}
use Rattle.tg_index.specs.Slots.{Slots, IsIndexOf}
use Rattle.std.specs.Map.{lookup}
use Rattle.tg_rows.specs.Rows.{IsVertexAt, name_at, name_in, objects_of, row_words}
use Rattle.tg_rows.specs.declared.indexed_row.IndexedRow.{IndexedRow}

-- the name to which a word refers, if it isn't empty
abbrev pub name_referred : SpaceList → ℕ → Option ℕ
name_referred h word = if word == 0 then None else Some (name_in h word)

-- the names at the places of a row, in chain order
abbrev pub row_slots : SpaceList → Place → ℕ → Option ℕ
row_slots h p n = name_referred h (slice_index (row_words h p) n)

-- The index of the row of the object at a place: its names by the numbers of their places, and its cells in chain order.
pub record IsRowIndex (h : SpaceList) (p : Place) (s : Slots) (places : List Place) : Type 0 where
  pub names : IsIndexOf s (row_slots h p)
  pub cells : places ≡ row_of h p
  pub len : s.len ≡ length (row_words h p)

-- the index of each row but that of the object at a place stays that row's
abbrev pub KeepsOtherIndexes : SpaceList → SpaceList → Place → Type 0
KeepsOtherIndexes h after from =
    (r : Place) (s : Slots) (places : List Place) → r ≢ from → IsKindAt h Object r → IsRowIndex h r s places → IsRowIndex after r s places

-- The place with a number is this word of a cell of the row. The object counts as a chunk whose first three places are missing.
pub record IsPlaceOf (cells : List Place) (n : ℕ) (e : Place × ℕ) : Type 0 where
  pub number : ℕ
  pub cell : slice_get cells number ≡ Some e.0
  pub inside : number < length cells
  pub is : n + 4 ≡ number * 6 + e.1
  pub from : 1 ≤ e.1
  pub to : e.1 ≤ 6

-- a nursery collection moves no cell of the place's space
abbrev pub IsOldPlace : Place → Type 0
IsOldPlace p = from_space Nursery p.space ≡ false

-- Of the cells of the row, as many first ones lie in Old as are known to, and marks are at these alone.
pub record IsAged (row : IndexedRow) : Type 0 where
  pub within : row.old_cells ≤ length row.cells.items
  pub cells : All IsOldPlace (take row.old_cells row.cells.items)
  pub marks : (n : ℕ) → bit_in row.noted n ≡ 1 → n < row.old_cells

-- those of them that are remembered are marked
pub record IsMarked (remembered : List Place) (row : IndexedRow) : Type 0 where
  pub aged : IsAged row
  pub marked : (n : ℕ) (d : Place) → n < row.old_cells → Contains remembered (slice_index_or row.cells.items n d) → bit_in row.noted n ≡ 1

-- The index is that of the row of the vertex with this name, beside these remembered cells.
pub record IsIndexed (h : SpaceList) (remembered : List Place) (name : ℕ) (row : IndexedRow) : Type 0 where
  pub place : Place
  pub vertex : IsVertexAt h name place
  pub index : IsRowIndex h place row.names row.cells.items
  pub marked : IsMarked remembered row

-- each of these indexes is that of the row of the vertex with its name
abbrev pub AreIndexed : SpaceList → List Place → List (ℕ × IndexedRow) → Type 0
AreIndexed h remembered rows = (name : ℕ) (row : IndexedRow) → lookup (nat_eq name) rows ≡ Some row → IsIndexed h remembered name row

-- ---- what a collection makes of indexes

-- The index is that of the same row once each of its cells was followed; the object of the row was copied.
pub record IsFollowedTo (kind : Kind) (starts forward : List ℕ) (row followed : IndexedRow) : Type 0 where
  pub names : followed.names ≡ row.names
  pub cells : followed.cells.items ≡ map (followed_place (from_space kind) starts (new_place forward)) row.cells.items
  pub copied : (p : Place) → slice_get row.cells.items 0 ≡ Some p → from_space kind p.space ≡ true → slice_index forward (number_by starts p) ≢ 0

-- the object of the row wasn't copied
pub record IsLeftBehind (kind : Kind) (starts forward : List ℕ) (row : IndexedRow) : Type 0 where
  pub object : Place
  pub first : slice_get row.cells.items 0 ≡ Some object
  pub moves : from_space kind object.space ≡ true
  pub uncopied : slice_index forward (number_by starts object) ≡ 0

-- The cells to be remembered of which it is known beforehand that each is marked which is known to lie in Old. A full collection
-- moves each cell, so it goes by none of them.
abbrev pub known_notes : Kind → List Place → List Place
known_notes FullKind notes = []
known_notes Nursery notes = notes

-- the place in each forwarding word of a full collection is in Old, and that in a word 0 too
abbrev pub AreMovedToOld : Kind → List ℕ → Type 0
AreMovedToOld kind forward = kind ≡ FullKind → All (λ word. IsOldPlace (place_in word)) forward

-- a row with cells that have numbers, of which the remembered ones are marked
pub record IsFollowable (starts : List ℕ) (words : ℕ) (remembered : List Place) (row : IndexedRow) : Type 0 where
  pub some : 0 < length row.cells.items
  pub numbered : All (IsNumbered starts words) row.cells.items
  pub marked : IsMarked remembered row

-- each of these indexes is that of a row that a collection of this kind may follow, after which these cells are to be remembered
abbrev pub AreFollowable : Kind → List ℕ → ℕ → List Place → List (ℕ × IndexedRow) → Type 0
AreFollowable kind starts words notes rows =
    (name : ℕ) (row : IndexedRow) → lookup (nat_eq name) rows ≡ Some row → IsFollowable starts words (known_notes kind notes) row

-- The index comes from the one that stood under the name, whose row was copied. These cells are to be remembered.
pub record IsFollowed (kind : Kind) (starts forward : List ℕ) (notes : List Place) (rows : List (ℕ × IndexedRow)) (name : ℕ) (followed : IndexedRow) : Type 0 where
  pub row : IndexedRow
  pub was : lookup (nat_eq name) rows ≡ Some row
  pub to : IsFollowedTo kind starts forward row followed
  pub marked : IsMarked notes followed

-- each of the later indexes comes from the one that stood under its name, and one is missing only where its row wasn't copied
pub record AreFollowed (kind : Kind) (starts forward : List ℕ) (notes : List Place) (rows later : List (ℕ × IndexedRow)) : Type 0 where
  pub each : (name : ℕ) (followed : IndexedRow) → lookup (nat_eq name) later ≡ Some followed → IsFollowed kind starts forward notes rows name followed
  pub kept : (name : ℕ) (row : IndexedRow) → lookup (nat_eq name) rows ≡ Some row → IsSome (lookup (nat_eq name) later) ⊎ IsLeftBehind kind starts forward row

-- ---- which names have an index

-- there is an index under the name
abbrev pub indexed_in : List (ℕ × IndexedRow) → ℕ → Bool
indexed_in rows name = is_some (lookup (nat_eq name) rows)

-- the names of the vertices of which the row has an index, in the order of their cells
abbrev pub names_indexed : SpaceList → List (ℕ × IndexedRow) → List ℕ
names_indexed h rows = filter (indexed_in rows) (map (name_at h) (objects_of h))

-- the same names have an index
abbrev pub SameIndexed : List (ℕ × IndexedRow) → List (ℕ × IndexedRow) → Type 0
SameIndexed rows later = (name : ℕ) → indexed_in later name ≡ indexed_in rows name

-- the same names have an index, but that this one may have got one
pub record MayIndex (name : ℕ) (rows later : List (ℕ × IndexedRow)) : Type 0 where
  pub kept : IsTrue (indexed_in rows name) → IsTrue (indexed_in later name)
  pub others : (x : ℕ) → x ≢ name → indexed_in later x ≡ indexed_in rows x

-- ---- which rows may have young cells

-- The indexes of long rows, each under the name of the row's vertex. The first `old_rows` ones are of rows that are known to lie in
-- Old whole. There is room for `spare` more.
pub record Indexes : Type 0 where
  pub entries : List (ℕ × IndexedRow)
  pub old_rows : ℕ
  pub spare : ℕ

-- the row is known to lie in Old whole
abbrev pub IsOldRow : IndexedRow → Type 0
IsOldRow row = row.old_cells ≡ length row.cells.items

-- of each row the cells lie in Old that are known to, and the first rows are known to lie there whole
pub record AreAged (rows : List (ℕ × IndexedRow)) (old : ℕ) : Type 0 where
  pub within : old ≤ length rows
  pub each : All (λ e. IsAged e.1) rows
  pub first : All (λ e. IsOldRow e.1) (take old rows)

-- the index of the row of the vertex with this name is at the place
pub record HasIndexAt (rows : List (ℕ × IndexedRow)) (name at : ℕ) : Type 0 where
  pub row : IndexedRow
  pub here : slice_get rows at ≡ Some (name, row)
  pub found : lookup (nat_eq name) rows ≡ Some row
