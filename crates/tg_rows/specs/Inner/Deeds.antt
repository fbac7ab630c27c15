-- What the calls on one row are handed and what they promise: each set of clauses is once, and has a name.
use Rattle.std.specs.Prelude.{◌≡◌, ◌⊎◌, ℕ, ◌<◌, ◌≤◌, false, true, List, Option, Result, Err, IfErr, IfOk, IfSome, IsTrue, OnErr, OnOk, length}
use Rattle.std.specs.List.{All}
use Rattle.tg_rights.specs.RightSet.{RightSet, is_none_held}
use Rattle.tg_model.specs.declared.value.Value.{Value}
use Rattle.tg_model.specs.Graph.{listing_of, with_rights, without_rights}
use Rattle.tg_model.specs.Rules.{with_value, written_at}
use Rattle.tg_word.specs.Word.{nursery_space}
use Rattle.tg_word.specs.declared.Place.{Place}
use Rattle.tg_word.specs.declared.TheConstants.{MAX_NURSERIES, CELLS}
use Rattle.tg_block.specs.declared.CellKind.TheVariants.{Object}
use Rattle.tg_space.specs.SpaceList.{space_of}
use Rattle.tg_space.specs.SpaceTable.{IsFull, IsSpaceTable}
use Rattle.tg_space.specs.Soundness.{IsKindAt}
use Rattle.tg_space.specs.Generations.{AreRemembered}
use Rattle.tg_space.specs.Targets.{young_spaces}
use Rattle.tg_space.specs.declared.room_fault.RoomFault.{RoomFault}
use Rattle.tg_space.specs.declared.room_fault.RoomFault.TheVariants.{HeapFull}
use Rattle.tg_nursery.specs.Allocation.{HasFewerLeft, HasRoomLeft, room_made_for}
use Rattle.tg_rows.specs.Content.{IsNamed}
use Rattle.tg_rows.specs.Inner.Following.{IsReadyToFollow, IsRowPut, IsWay}
use Rattle.tg_rows.specs.Graph.{IsGraph, IsLongRow, content_in, rights_found}
use Rattle.tg_rows.specs.Index.{AreIndexed, Indexes, MayIndex, SameIndexed, indexed_in}
use Rattle.tg_rows.specs.Rows.{IsVertexAt, name_at}
use Rattle.tg_rows.specs.Spots.{IsMadeInRow, IsPutInRow, IsSpotFor, LacksCellsFor, note_for, IsTakenFromRow}
use Rattle.tg_rows.specs.Steps.{ChangesTo}
use Rattle.tg_rows.specs.declared.cells.Cells.{Cells}
use Rattle.tg_rows.specs.declared.cells.Found.{Found}
use Rattle.tg_rows.specs.declared.cells.VertexRefused.{VertexRefused}
use Rattle.tg_rows.specs.declared.indexes.Way.{Way}
use Rattle.tg_rows.specs.declared.rows.Spot.{Spot}

-- ---- what a look is handed

-- the cells are those of a graph, and the place names one of its objects
pub record HasObject {P : Type 0} (cells : Cells P) (p : Place) : Type 0 where
  pub graph : IsGraph cells.spaces.spaces cells.payloads
  pub object : IsKindAt cells.spaces.spaces Object p

-- the row of an object of the graph may be looked along: these indexes are those of the graph's rows
pub record CanLook {P : Type 0} (cells : Cells P) (rows : Indexes) (p : Place) : Type 0 where
  pub graph : IsGraph cells.spaces.spaces cells.payloads
  pub from : IsKindAt cells.spaces.spaces Object p
  pub indexed : AreIndexed cells.spaces.spaces cells.remembered.places rows.entries

-- the same, and it is looked along so
pub record LooksAlong {P : Type 0} (cells : Cells P) (rows : Indexes) (w : Way) (p : Place) : Type 0 where
  pub graph : IsGraph cells.spaces.spaces cells.payloads
  pub from : IsKindAt cells.spaces.spaces Object p
  pub indexed : AreIndexed cells.spaces.spaces cells.remembered.places rows.entries
  pub way : IsWay cells.spaces.spaces rows.entries p w

-- the same, for a name that no vertex has
pub record LooksForNew {P : Type 0} (cells : Cells P) (rows : Indexes) (w : Way) (p : Place) (name : ℕ) : Type 0 where
  pub row : LooksAlong cells rows w p
  pub fresh : ¬ IsNamed (content_in cells.spaces.spaces cells.payloads) name

-- of the row of an object of the graph, this is the spot for the reference to a name
pub record HasSpot {P : Type 0} (cells : Cells P) (p : Place) (name : ℕ) (s : Spot) : Type 0 where
  pub table : IsSpaceTable cells.spaces
  pub graph : IsGraph cells.spaces.spaces cells.payloads
  pub from : IsKindAt cells.spaces.spaces Object p
  pub spot : IsSpotFor cells.spaces.spaces name p s

-- the edges are those of the vertex at a place, by rising name of the target
abbrev pub ListsRow : {P : Type 0} → Cells P → Place → List (ℕ × RightSet) → Type 0
ListsRow cells p edges = let content = content_in cells.spaces.spaces cells.payloads in
    (n : ℕ) → All (λ x. x < n) content.names → edges ≡ listing_of content.label n (name_at cells.spaces.spaces p)

-- ---- what a change is handed

-- a nursery that there is may be asked for so many cells
pub record CanReserve {P : Type 0} (cells : Cells P) (n count : ℕ) : Type 0 where
  pub few : n < MAX_NURSERIES
  pub few_cells : count ≤ CELLS
  pub nursery : nursery_space n < length cells.spaces.spaces

-- some rights over an object may be given, in a row that gets the cells that it needs from a nursery
pub record CanGive {P : Type 0} (cells : Cells P) (n : ℕ) (q : Place) (rights : RightSet) : Type 0 where
  pub nursery : nursery_space n < length cells.spaces.spaces
  pub to : IsKindAt cells.spaces.spaces Object q
  pub some : is_none_held rights ≡ false

-- an object with a name that none has may be made in a nursery, and some rights over it given
pub record CanMake {P : Type 0} (cells : Cells P) (n name : ℕ) (rights : RightSet) : Type 0 where
  pub nursery : nursery_space n < length cells.spaces.spaces
  pub some : is_none_held rights ≡ false
  pub fresh : ¬ IsNamed (content_in cells.spaces.spaces cells.payloads) name

-- the same, with the spot for the rights in a row
pub record CanMakeAt {P : Type 0} (cells : Cells P) (n : ℕ) (p : Place) (name : ℕ) (s : Spot) (rights : RightSet) : Type 0 where
  pub row : HasSpot cells p name s
  pub vertex : CanMake cells n name rights

-- ---- what is promised

-- what a look for a name in a row finds: the rights over the vertex with that name, and where its object is
pub record IsEdgeFound {P : Type 0} (cells : Cells P) (p : Place) (name : ℕ) (result : Option Found) : Type 0 where
  pub rights : rights_found result ≡ (content_in cells.spaces.spaces cells.payloads).label (name_at cells.spaces.spaces p) name
  pub some : IfSome result (λ found. is_none_held found.rights ≡ false)
  pub place : IfSome result (λ found. IsVertexAt cells.spaces.spaces name found.place)

-- a number was written to what an object stores
abbrev pub WritesNumber : {P : Type 0} → Cells P → Cells P → Place → ℕ → Type 0
WritesNumber old new p number = let content = content_in old.spaces.spaces old.payloads in
    ChangesTo old.spaces new.spaces new.payloads (IsNamed content) content.label (written_at content.value (name_at old.spaces.spaces p) number)

-- an object with a name was put into a cell, and stores this value
abbrev pub PlacesVertex : {P : Type 0} → Cells P → Cells P → ℕ → Value → Type 0
PlacesVertex old new name value = let content = content_in old.spaces.spaces old.payloads in
    ChangesTo old.spaces new.spaces new.payloads (λ x. IsNamed content x ⊎ (x ≡ name)) content.label (with_value content.value name value)

-- rights over one object were put at this spot in the row of another
abbrev pub IsEdgePut : {P : Type 0} → Cells P → Cells P → Place → Place → Spot → Type 0
IsEdgePut old new from to s =
    IsRowPut old.spaces new.spaces old.remembered.places new.remembered.places from (name_at old.spaces.spaces to) s (note_for s (young_spaces to.space))

-- There is room for a note, if there is one, and for so many cells of a nursery, and nothing else changed. Where it is refused, there
-- may be room for the note.
pub record MakesRoomInCells {P A : Type 0} (old new : Cells P) (n : ℕ) (wanted : Option Place) (count : ℕ) (result : Result A RoomFault) : Type 0 where
  pub remembered : new.remembered.places ≡ old.remembered.places
  pub note : OnOk result (IfSome wanted (λ _. 0 < new.remembered.spare))
  pub spaces : OnOk result (new.spaces ≡ room_made_for old.spaces (nursery_space n) count)
  pub table : OnOk result (IsSpaceTable new.spaces)
  pub left : OnOk result (HasRoomLeft new.spaces (nursery_space n) count)
  pub refused : OnErr result (new.spaces ≡ old.spaces)
  pub full : result ≡ Err HeapFull → HasFewerLeft old.spaces (nursery_space n) count × IsFull old.spaces (nursery_space n)

-- the same, and there is room for one payload
pub record MakesVertexRoom {P A : Type 0} (old new : Cells P) (n : ℕ) (wanted : Option Place) (count : ℕ) (result : Result A RoomFault) : Type 0 where
  pub room : MakesRoomInCells old new n wanted count result
  pub payloads : new.payloads.entries ≡ old.payloads.entries
  pub spare : OnOk result (0 < new.payloads.spare)

-- Rights over one object were put in the row of another, and the written cell is remembered if it has to be; where it is refused,
-- there may be room for one more note.
pub record AddsEdgeToRow {P A : Type 0} (old new : Cells P) (n : ℕ) (p q : Place) (rights : RightSet) (result : Result A RoomFault) : Type 0 where
  pub added : let content = content_in old.spaces.spaces old.payloads in
      OnOk result (ChangesTo old.spaces new.spaces old.payloads (IsNamed content)
      (with_rights content.label (name_at old.spaces.spaces p) (name_at old.spaces.spaces q) rights) content.value)
  pub payloads : new.payloads ≡ old.payloads
  pub refused : OnErr result (new.spaces ≡ old.spaces)
  pub full : result ≡ Err HeapFull → LacksCellsFor old.spaces (nursery_space n) 0 (name_at old.spaces.spaces p) (name_at old.spaces.spaces q)
  pub placed : OnOk result (IsPutInRow old.spaces new.spaces old.remembered.places new.remembered.places (nursery_space n) p q rights)
  pub remembered : AreRemembered old.spaces.spaces old.remembered.places → AreRemembered new.spaces.spaces new.remembered.places
  pub places : OnErr result (new.remembered.places ≡ old.remembered.places)

-- An object with a name was made, and rights over it were put in the row of another, of which the written cell is remembered if it
-- has to be; where it is refused, there may be room for one more payload and one more note.
pub record MakesVertex {P : Type 0} (old new : Cells P) (n : ℕ) (p : Place) (name : ℕ) (rights : RightSet) (value : Value) (result : Result Place (VertexRefused P)) : Type 0 where
  pub made : let content = content_in old.spaces.spaces old.payloads in
      OnOk result (ChangesTo old.spaces new.spaces new.payloads (λ x. IsNamed content x ⊎ (x ≡ name))
      (with_rights content.label (name_at old.spaces.spaces p) name rights) (with_value content.value name value))
  pub vertex : IfOk result (IsVertexAt new.spaces.spaces name)
  pub handed_back : IfErr result (λ refused. refused.draft ≡ value)
  pub spaces : OnErr result (new.spaces ≡ old.spaces)
  pub payloads : OnErr result (new.payloads.entries ≡ old.payloads.entries)
  pub places : OnErr result (new.remembered.places ≡ old.remembered.places)
  pub remembered : AreRemembered old.spaces.spaces old.remembered.places → AreRemembered new.spaces.spaces new.remembered.places
  pub placed : OnOk result (IsMadeInRow old.spaces new.spaces old.remembered.places new.remembered.places (nursery_space n)
      (name_at old.spaces.spaces p) name rights)
  pub full : IfErr result (λ refused. refused.why ≡ HeapFull →
      LacksCellsFor old.spaces (nursery_space n) 1 (name_at old.spaces.spaces p) name)

-- the same, and in the row the rights were put at this spot
pub record MakesVertexAt {P : Type 0} (old new : Cells P) (n : ℕ) (p : Place) (name : ℕ) (s : Spot) (rights : RightSet) (value : Value) (result : Result Place (VertexRefused P)) : Type 0 where
  pub vertex : MakesVertex old new n p name rights value result
  pub put : OnOk result (IsRowPut old.spaces new.spaces old.remembered.places new.remembered.places p name s (note_for s true))

-- rights over the vertex with a name were taken from an object, with no cell and no payload more or less
pub record TakesRights {P : Type 0} (old new : Cells P) (p : Place) (name : ℕ) (rights : RightSet) : Type 0 where
  pub dropped : let content = content_in old.spaces.spaces old.payloads in
      ChangesTo old.spaces new.spaces old.payloads (IsNamed content)
      (without_rights content.label (name_at old.spaces.spaces p) name rights) content.value
  pub payloads : new.payloads ≡ old.payloads
  pub remembered : AreRemembered old.spaces.spaces old.remembered.places → AreRemembered new.spaces.spaces old.remembered.places
  pub used : new.spaces.used ≡ old.spaces.used
  pub blocks : (space : ℕ) → length (space_of new.spaces.spaces space) ≡ length (space_of old.spaces.spaces space)
  pub placed : IsTakenFromRow old.spaces new.spaces p name rights

-- ---- what is promised of the indexes

-- the indexes are still those of the rows, and the same names have one
pub record KeepsIndexed {P : Type 0} (cells : Cells P) (rows later : Indexes) : Type 0 where
  pub indexed : AreIndexed cells.spaces.spaces cells.remembered.places later.entries
  pub kept : SameIndexed rows.entries later.entries

-- the same, and the row of an object may be changed once it was looked along so
pub record IsReadied {P E : Type 0} (cells : Cells P) (before later : Indexes) (p : Place) (result : Result Way E) : Type 0 where
  pub rows : KeepsIndexed cells before later
  pub ready : IfOk result (IsReadyToFollow cells.spaces.spaces later p)

-- The indexes are those of the rows after a change of the row of an object, which has one then if it is long; of the other names, the
-- same have one, and of all where the change was refused.
pub record FollowsChange {P A E : Type 0} (old new : Cells P) (rows later : Indexes) (p : Place) (result : Result A E) : Type 0 where
  pub indexed : AreIndexed new.spaces.spaces new.remembered.places later.entries
  pub long : OnOk result (IsLongRow new.spaces.spaces p → IsTrue (indexed_in later.entries (name_at old.spaces.spaces p)))
  pub names : MayIndex (name_at old.spaces.spaces p) rows.entries later.entries
  pub kept : OnErr result (SameIndexed rows.entries later.entries)
