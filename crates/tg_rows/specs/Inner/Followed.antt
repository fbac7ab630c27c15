-- What following the index of a row through a collection is handed, and what it keeps.
use Rattle.std.specs.Prelude.{◌≡◌, ◌≢◌, ℕ, ◌≤◌, List, Some, length, nat_eq, slice_get, take}
use Rattle.std.specs.List.{All}
use Rattle.std.specs.Map.{lookup, values_of}
use Rattle.indexmap.specs.Layout.{set_value_at}
use Rattle.tg_word.specs.declared.Place.{Place}
use Rattle.tg_space.specs.declared.kind.Kind.{Kind}
use Rattle.tg_space.specs.declared.kind.Kind.TheVariants.{Full}
use Rattle.tg_space.specs.Numbering.{IsNumbered}
use Rattle.tg_rows.specs.Index.{AreMovedToOld, IsAged, IsFollowable, IsFollowedTo, IsLeftBehind, IsMarked, IsOldPlace, IsOldRow, known_notes}
use Rattle.tg_rows.specs.declared.followed.Fate.{Fate}
use Rattle.tg_rows.specs.declared.followed.Fate.TheVariants.{Gone, Old}
use Rattle.tg_rows.specs.declared.indexed_row.IndexedRow.{IndexedRow}

-- the index of a row may be followed through a collection of this kind, after which these cells are to be remembered
pub record CanFollow (kind : Kind) (starts forward : List ℕ) (notes : List Place) (row : IndexedRow) : Type 0 where
  pub able : IsFollowable starts (length forward) (known_notes kind notes) row
  pub to_old : AreMovedToOld kind forward

-- each of these indexes may be followed so
abbrev pub CanFollowEach : Kind → List ℕ → List ℕ → List Place → List (ℕ × IndexedRow) → Type 0
CanFollowEach kind starts forward notes rows =
    (name : ℕ) (row : IndexedRow) → lookup (nat_eq name) rows ≡ Some row → CanFollow kind starts forward notes row

-- The index at a place became that of the row's copy, unless the row wasn't copied; the others stayed.
pub record FollowsRowAt (kind : Kind) (starts forward : List ℕ) (notes : List Place) (rows later : List (ℕ × IndexedRow)) (at : ℕ) (fate : Fate) : Type 0 where
  pub row : IndexedRow
  pub followed : IndexedRow
  pub was : slice_get (values_of rows) at ≡ Some row
  pub entries : later ≡ set_value_at rows at followed
  pub to : fate ≢ Gone → IsFollowedTo kind starts forward row followed
  pub aged : IsAged followed
  pub old : fate ≡ Old → IsOldRow followed
  pub marked : fate ≢ Gone → IsMarked notes followed
  pub gone : fate ≡ Gone → IsLeftBehind kind starts forward row

-- the cells of a row may be followed after the first ones, which lie in Old
pub record CanFollowCells (kind : Kind) (starts forward : List ℕ) (first : ℕ) (cells : List Place) : Type 0 where
  pub within : first ≤ length cells
  pub old : All IsOldPlace (take first cells)
  pub full : kind ≡ Full → first ≡ 0
  pub numbered : All (IsNumbered starts (length forward)) cells
  pub to_old : AreMovedToOld kind forward

-- as many first cells of a marked row lie in Old, and no more are known to yet
pub record CanMark (notes : List Place) (row : IndexedRow) (count : ℕ) : Type 0 where
  pub marked : IsMarked notes row
  pub from : row.old_cells ≤ count
  pub within : count ≤ length row.cells.items
  pub old : All IsOldPlace (take count row.cells.items)

-- it is the index of the same row, and each noted cell that is known to lie in Old is marked
pub record KeepsMarks (notes : List Place) (row later : IndexedRow) : Type 0 where
  pub names : later.names ≡ row.names
  pub cells : later.cells ≡ row.cells
  pub marked : IsMarked notes later
