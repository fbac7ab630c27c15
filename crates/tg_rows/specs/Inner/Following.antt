-- What a change of one row leaves for the indexes to follow.
use Rattle.std.specs.Prelude.{[], ◌≡◌, ℕ, ◌*◌, ◌<◌, ◌≤◌, Bool, List, Option, None, false, length, nat_eq, slice_index}
use Rattle.std.specs.Map.{lookup}
use Rattle.tg_rights.specs.RightSet.{RightSet, is_none_held}
use Rattle.tg_word.specs.declared.Place.{Place}
use Rattle.tg_block.specs.declared.CellKind.TheVariants.{Object}
use Rattle.tg_space.specs.SpaceList.{SpaceList, IsSpaceList, cell_at}
use Rattle.tg_space.specs.SpaceTable.{SpaceTable, IsNursery, IsSpaceTable}
use Rattle.tg_space.specs.Soundness.{AreSound, IsKindAt}
use Rattle.tg_space.specs.Rows.{row_of}
use Rattle.tg_nursery.specs.Allocation.{HasRoomLeft}
use Rattle.tg_payload.specs.Table.{Payloads}
use Rattle.tg_index.specs.Slots.{HasRoom}
use Rattle.tg_rows.specs.Graph.{IsGraph}
use Rattle.tg_rows.specs.Index.{AreIndexed, HasIndexAt, Indexes, IsAged, IsMarked, IsRowIndex}
use Rattle.tg_rows.specs.Rows.{IsRow, IsVertexAt, name_at}
use Rattle.tg_rows.specs.Spots.{IsNoteIn, IsSpotFor, cells_for, narrowed, note_for, table_put, with_note, word_put}
use Rattle.tg_rows.specs.Steps.{KeepsRows}
use Rattle.tg_rows.specs.declared.indexed_row.IndexedRow.{IndexedRow}
use Rattle.tg_rows.specs.declared.indexes.Way.{Way}
use Rattle.tg_rows.specs.declared.indexes.Way.TheVariants.{Walk, Index, New}
use Rattle.tg_rows.specs.declared.rows.Spot.{Spot}
use Rattle.tg_rows.specs.declared.rows.Spot.TheVariants.{Reference}
use Rattle.tg_rows.specs.declared.rows.TheConstants.{SHORT}

-- ---- how a row is looked along

-- the row of the object at a place is looked along so
abbrev pub IsWay : SpaceList → List (ℕ × IndexedRow) → Place → Way → Type 0
IsWay h rows from Walk = lookup (nat_eq (name_at h from)) rows ≡ None
IsWay h rows from (Index at) = HasIndexAt rows (name_at h from) at
IsWay h rows from (New row) = (lookup (nat_eq (name_at h from)) rows ≡ None) × IsRowIndex h from row.value.names row.value.cells.items

-- there is room in the index of a row for one more name and one more cell, and to mark each cell that is known to lie in Old
pub record HasRoomIn (row : IndexedRow) : Type 0 where
  pub names : HasRoom row.names
  pub cells : 0 < row.cells.spare
  pub marks : row.old_cells ≤ 64 * length row.noted

-- the index says the same, of each row and of how much of it is known
pub record HasSameIndex (row later : IndexedRow) : Type 0 where
  pub kept : (h : SpaceList) (p : Place) → IsRowIndex h p row.names row.cells.items → IsRowIndex h p later.names later.cells.items
  pub len : later.names.len ≡ row.names.len
  pub aged : IsAged row → IsAged later
  pub marked : (places : List Place) → IsMarked places row → IsMarked places later

-- what is known of the row's cells in Old is known still, once this cell was noted
pub record NotesCell (note : Option Place) (row later : IndexedRow) : Type 0 where
  pub aged : IsAged row → IsAged later
  pub marked : (places : List Place) → IsMarked places row → IsMarked (with_note places note) later

-- a row may be changed that has no index, and then isn't long yet
pub record IsReadyShort (h : SpaceList) (rows : Indexes) (from : Place) : Type 0 where
  pub none : lookup (nat_eq (name_at h from)) rows.entries ≡ None
  pub short : length (row_of h from) < SHORT

-- the row of the vertex with a name may be changed: its index is at this place, and has room
pub record IsReadyAt (rows : Indexes) (name at : ℕ) : Type 0 where
  pub here : HasIndexAt rows.entries name at
  pub behind : rows.old_rows ≤ at
  pub room : HasRoomIn here.row

-- a row may be changed that has no index yet, but gets this one
pub record IsReadyNew (h : SpaceList) (rows : Indexes) (from : Place) (row : IndexedRow) : Type 0 where
  pub none : lookup (nat_eq (name_at h from)) rows.entries ≡ None
  pub spare : 0 < rows.spare
  pub index : IsRowIndex h from row.names row.cells.items
  pub aged : IsAged row
  pub marked : (places : List Place) → IsMarked places row
  pub room : HasRoomIn row

-- the row of the object at a place may be changed once it was looked along so
abbrev pub IsReadyToFollow : SpaceList → Indexes → Place → Way → Type 0
IsReadyToFollow h rows from Walk = IsReadyShort h rows from
IsReadyToFollow h rows from (Index at) = IsReadyAt rows (name_at h from) at
IsReadyToFollow h rows from (New row) = IsReadyNew h rows from row.value

-- ---- rights were put in a row

-- Rights over the vertex with a name were put at the spot for it in the row of an object, in cells with room for them. This
-- cell is noted, if there is one.
pub record IsPutAt (old new : SpaceTable) (from : Place) (name : ℕ) (spot : Spot) (note : Option Place) : Type 0 where
  pub payloads : Payloads
  pub space : ℕ
  pub to : Place
  pub rights : RightSet
  pub young : Bool
  pub table : IsSpaceTable old
  pub graph : IsGraph old.spaces payloads
  pub object : IsKindAt old.spaces Object from
  pub found : IsSpotFor old.spaces name from spot
  pub nursery : IsNursery old space
  pub left : HasRoomLeft old space (cells_for spot)
  pub target : IsVertexAt old.spaces name to
  pub some : is_none_held rights ≡ false
  pub put : new ≡ table_put old space spot rights to
  pub noted : note ≡ note_for spot young

-- Rights were put so once there was room for them, which leaves all rows as they are; and the noted cell is remembered.
pub record IsRowPut (old new : SpaceTable) (places later : List Place) (from : Place) (name : ℕ) (spot : Spot) (note : Option Place) : Type 0 where
  pub ready : SpaceTable
  pub rows : KeepsRows old.spaces ready.spaces
  pub put : IsPutAt ready new from name spot note
  pub remembered : later ≡ with_note places note

-- this index is still that of the row before rights were put so
pub record IsRowFollowed (new : SpaceTable) (from : Place) (name : ℕ) (spot : Spot) (note : Option Place) (row : IndexedRow) : Type 0 where
  pub old : SpaceTable
  pub put : IsPutAt old new from name spot note
  pub index : IsRowIndex old.spaces from row.names row.cells.items

-- These indexes are still those of the rows before rights were put in one of them, which was looked along so and was ready for it.
pub record AreBehind (new : SpaceTable) (later : List Place) (rows : Indexes) (way : Way) (from : Place) (name : ℕ) (spot : Spot) (note : Option Place) : Type 0 where
  pub old : SpaceTable
  pub payloads : Payloads
  pub places : List Place
  pub table : IsSpaceTable old
  pub graph : IsGraph old.spaces payloads
  pub object : IsKindAt old.spaces Object from
  pub indexed : AreIndexed old.spaces places rows.entries
  pub looked : IsReadyToFollow old.spaces rows from way
  pub put : IsRowPut old new places later from name spot note

-- the cell, if there is one, is the one to be noted in the row that has this index
pub record IsNotedIn (row : IndexedRow) (note : Option Place) : Type 0 where
  pub spaces : SpaceList
  pub from : Place
  pub list : IsSpaceList spaces
  pub sound : AreSound spaces []
  pub whole : IsRow spaces from
  pub index : IsRowIndex spaces from row.names row.cells.items
  pub noted : IsNoteIn spaces from note

-- ---- rights were taken

-- rights were taken off the reference to the vertex with a name, which is this word of a cell of the row of an object
pub record IsNarrowed (old new : SpaceTable) (from : Place) (name : ℕ) (cell : Place) (index : ℕ) : Type 0 where
  pub payloads : Payloads
  pub rights : RightSet
  pub table : IsSpaceTable old
  pub graph : IsGraph old.spaces payloads
  pub object : IsKindAt old.spaces Object from
  pub found : IsSpotFor old.spaces name from (Reference cell index)
  pub written : new ≡ word_put old cell index (narrowed (slice_index (cell_at old.spaces cell) index) rights)

-- these indexes are still those of the rows before rights were taken in one of them, which was looked along so,
-- and whose reference to the vertex with a name is this word now
pub record AreUncleared (new : SpaceTable) (places : List Place) (rows : List (ℕ × IndexedRow)) (way : Way) (name word : ℕ) : Type 0 where
  pub old : SpaceTable
  pub from : Place
  pub cell : Place
  pub index : ℕ
  pub narrowed : IsNarrowed old new from name cell index
  pub left : word ≡ slice_index (cell_at new.spaces cell) index
  pub indexed : AreIndexed old.spaces places rows
  pub looked : IsWay old.spaces rows from way
