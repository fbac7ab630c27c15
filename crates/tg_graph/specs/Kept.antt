-- What a collection keeps of a heap, and what is written and dropped once nothing more can be refused.
use Rattle.std.specs.Prelude.{[], ◌≡◌, ◌≢◌, ◌↔◌, ℕ, ◌+◌, ◌<◌, ◌≤◌, ◌⊎◌, true, List, None, IsSome, length, map, slice_index}
use Rattle.std.specs.List.{Contains, All}
use Rattle.tg_word.specs.declared.Place.{Place}
use Rattle.tg_word.specs.declared.TheConstants.{MOST_SPACE_BLOCKS}
use Rattle.tg_block.specs.declared.CellKind.TheVariants.{Object}
use Rattle.tg_space.specs.SpaceList.{SpaceList, BlockList, HasCell, cell_at, flat_of, space_of, cells_of}
use Rattle.tg_space.specs.SpaceTable.{SpaceTable, IsSpaceTable, kept_blocks, with_adopted}
use Rattle.tg_space.specs.Numbering.{AreNumbersOf, followed_place}
use Rattle.tg_space.specs.Soundness.{IsKindAt, IsOldCell, IsPointer}
use Rattle.tg_space.specs.Targets.{from_space, image_of, pointers_of, young_spaces}
use Rattle.tg_space.specs.Collection.{new_place}
use Rattle.tg_space.specs.declared.copied.Copied.{Copied}
use Rattle.tg_space.specs.declared.kind.Kind.{Kind}
use Rattle.tg_space.specs.declared.kind.Kind.TheVariants.{Full, Nursery}
use Rattle.tg_payload.specs.Table.{Payloads, entry}
use Rattle.tg_space.specs.Generations.{AreNeeded}
use Rattle.tg_rows.specs.Rows.{IsVertexAt, key_at}
use Rattle.tg_rows.specs.Graph.{IsGraph}
use Rattle.tg_rows.specs.declared.cells.Cells.{Cells}
use Rattle.tg_subjects.specs.Subjects.{nurseries_of, subject_places, AreSubjects, names_of}
use Rattle.tg_graph.specs.Heap.{HeapState, content_of, subject_names}
use Rattle.tg_rows.specs.Content.{IsNamed}
use Rattle.tg_graph.specs.Standing.{KeepsReached}
use Rattle.tg_subjects.specs.declared.subject.Subject.{Subject}

-- ---- cells

-- the cell at a place isn't free, and it was copied if it is in from-space
pub record IsKept (kind : Kind) (h : SpaceList) (forward : List ℕ) (p : Place) : Type 0 where
  pub held : HasCell h p
  pub used : 0 < slice_index (cell_at h p) 0
  pub copied : from_space kind p.space ≡ true → slice_index forward (flat_of h p) ≢ 0

-- a cell of Old, and the words that it is to have
pub record Rewritten : Type 0 where
  pub place : Place
  pub words : List ℕ

-- what the cell of Old at a place is to be, with its references and its link moved
abbrev pub rewritten_at : SpaceList → List ℕ → Place → Rewritten
rewritten_at h forward p =
    record { place = p; words = image_of young_spaces h (new_place forward) (cell_at h p) }

-- the cells of Old that a collection writes: those that were remembered, where they stay
abbrev pub rewritten : Kind → SpaceList → List ℕ → List Place → List Rewritten
rewritten Full h forward places = []
rewritten Nursery h forward places = map (rewritten_at h forward) places

-- one of these cells is at the place, and has its words
pub record HasWritten (after : SpaceList) (cells : List Rewritten) (p : Place) : Type 0 where
  pub cell : Rewritten
  pub among : Contains cells cell
  pub at : cell.place ≡ p
  pub words : cell_at after p ≡ cell.words

-- none of these cells is at the place, which has the words that it had
pub record HasStayed (h after : SpaceList) (cells : List Rewritten) (p : Place) : Type 0 where
  pub apart : (cell : Rewritten) → Contains cells cell → cell.place ≢ p
  pub words : cell_at after p ≡ cell_at h p

-- these cells of Old were written, and no other was
pub record AreWritten (old new : SpaceTable) (cells : List Rewritten) : Type 0 where
  pub limits : new.limits ≡ old.limits
  pub used : new.used ≡ old.used
  pub long : length new.spaces ≡ length old.spaces
  pub others : (space : ℕ) → space ≢ 0 → space_of new.spaces space ≡ space_of old.spaces space
  pub held : (p : Place) → HasCell new.spaces p ↔ HasCell old.spaces p
  pub written : (p : Place) → HasWritten new.spaces cells p ⊎ HasStayed old.spaces new.spaces cells p

-- a nursery collection put its new blocks beside the old ones, and wrote to the cells of Old that were remembered
abbrev pub WritesRemembered : HeapState → HeapState → Copied → Type 0
WritesRemembered old new copied =
    AreWritten (with_adopted old.table Nursery copied.adoption.aged copied.adoption.old) new.table (map (rewritten_at old.table.spaces copied.forward.words) old.remembered)

-- these were written, and what holds of all spaces holds of these
pub record LeavesWritten (old new : SpaceTable) (cells : List Rewritten) : Type 0 where
  pub written : AreWritten old new cells
  pub table : IsSpaceTable new

-- ---- payloads

-- each key is that of one object
abbrev pub HaveKeysApart : SpaceList → Type 0
HaveKeysApart h =
    (p q : Place) → IsKindAt h Object p → IsKindAt h Object q → key_at h p ≡ key_at h q → p ≡ q

-- each object has a key of its own, and there is a forwarding word for each cell
pub record CanTellDead (h : SpaceList) (forward : List ℕ) : Type 0 where
  pub apart : HaveKeysApart h
  pub whole : length forward ≡ length (cells_of h)

-- the payloads of the kept objects are left, and no other
pub record KeepsPayloads (h : SpaceList) (kept : Place → Type 0) (payloads left : Payloads) : Type 0 where
  pub same : (p : Place) → kept p → IsKindAt h Object p → entry left (key_at h p) ≡ entry payloads (key_at h p)
  pub none_else : (key : ℕ) → IsSome (entry left key) → (p : Place) × kept p × IsKindAt h Object p × (key_at h p ≡ key)

-- the key is that of an object with this number, which wasn't copied
pub record IsDeadAt (h : SpaceList) (forward : List ℕ) (number key : ℕ) : Type 0 where
  pub place : Place
  pub object : IsKindAt h Object place
  pub at : flat_of h place ≡ number
  pub uncopied : slice_index forward number ≡ 0
  pub key_is : key_at h place ≡ key

-- the key is that of an object in from-space which wasn't copied
pub record IsDeadKey (kind : Kind) (h : SpaceList) (forward : List ℕ) (key : ℕ) : Type 0 where
  pub number : ℕ
  pub dead : IsDeadAt h forward number key
  pub moves : from_space kind dead.place.space ≡ true

-- at each of these keys there is nothing any more, and any other has what it had
abbrev pub Drops : Payloads → Payloads → (ℕ → Type 0) → Type 0
Drops payloads left dead =
    (key : ℕ) → (dead key × (entry left key ≡ None)) ⊎ ((dead key → ⊥) × (entry left key ≡ entry payloads key))

-- ---- the heap

-- each vertex in Old is where it was
abbrev pub VerticesOfOldStay : SpaceList → SpaceList → Type 0
VerticesOfOldStay h after =
    (name : ℕ) (p : Place) → p.space ≡ 0 → IsVertexAt h name p → IsVertexAt after name p

-- what a collection of a kind leaves of a heap
pub record IsSettled (kind : Kind) (old new : HeapState) : Type 0 where
  pub keeps : KeepsReached kind (content_of old) (content_of new) (subject_names old)
  pub only_old : kind ≡ Full → (space : ℕ) → space ≢ 0 → space_of new.table.spaces space ≡ []
  pub no_nursery : (space : ℕ) → 2 ≤ space → space_of new.table.spaces space ≡ []
  pub limits : new.table.limits ≡ old.table.limits
  pub needed : AreNeeded new.table.spaces new.remembered
  pub none_needed : kind ≡ Full → new.remembered ≡ []
  pub stay : kind ≡ Nursery → VerticesOfOldStay old.table.spaces new.table.spaces
  pub subjects : subject_names new ≡ subject_names old
  pub nurseries : nurseries_of new.subjects ≡ nurseries_of old.subjects
  -- the row of each vertex that is left has an index where it had one
  pub indexed : (x : ℕ) → IsNamed (content_of new) x → Contains new.indexed x ↔ Contains old.indexed x

-- ---- what the steps are handed, and what they make

-- The cell that stood at a place is one of Old, has the words that it had, and its pointers name cells that stood there too.
pub record IsLeftInOld (h : SpaceList) (t : SpaceTable) (p : Place) : Type 0 where
  pub old : IsOldCell t.spaces p
  pub words : cell_at t.spaces p ≡ cell_at h p
  pub pointers : All (IsPointer h) (pointers_of (cell_at h p))

-- A nursery collection left these cells of Old as they were, and there is a word by its number for each cell that was there.
pub record CanRewriteOld (kind : Kind) (h : SpaceList) (t : SpaceTable) (starts : List ℕ) (words : ℕ) (ps : List Place) : Type 0 where
  pub numbers : AreNumbersOf h starts words
  pub nursery : kind ≡ Nursery
  pub cells : All (IsLeftInOld h t) ps

-- The cells are those of a graph, with a word for each by its number. The remembered ones are of Old, which has room for this many new
-- blocks.
pub record CanMove {P : Type 0} (kind : Kind) (h : SpaceList) (cells : Cells P) (starts : List ℕ) (words grown : ℕ) : Type 0 where
  pub before : h ≡ cells.spaces.spaces
  pub graph : IsGraph cells.spaces.spaces cells.payloads
  pub numbers : AreNumbersOf h starts words
  pub remembered : All (IsOldCell cells.spaces.spaces) cells.remembered.places
  pub few : kept_blocks kind cells.spaces.spaces + grown ≤ MOST_SPACE_BLOCKS

-- Payloads of what wasn't copied were dropped, the new blocks adopted, and the remembered cells that stay written.
pub record AreMoved {P : Type 0} (kind : Kind) (old new : Cells P) (forward : List ℕ) (aged grown : BlockList) : Type 0 where
  pub dropped : Drops old.payloads new.payloads (IsDeadKey kind old.spaces.spaces forward)
  pub written : AreWritten (with_adopted old.spaces kind aged grown) new.spaces (rewritten kind old.spaces.spaces forward old.remembered.places)
  pub table : IsSpaceTable new.spaces

-- a cell has this number
pub record HasNumber (t : SpaceTable) (number : ℕ) : Type 0 where
  pub table : IsSpaceTable t
  pub inside : number < length (cells_of t.spaces)

-- the same subjects, which are now at these places
pub record ArePlaced (old new : List Subject) (places : List Place) : Type 0 where
  pub names : names_of new ≡ names_of old
  pub nurseries : nurseries_of new ≡ nurseries_of old
  pub places_are : subject_places new ≡ places
  pub subjects : AreSubjects new

-- the same subjects, each of which is now where the collection has its object
abbrev pub FollowsSubjects : Kind → List ℕ → List ℕ → List Subject → List Subject → Type 0
FollowsSubjects kind starts forward old new = ArePlaced old new (map (followed_place (from_space kind) starts (new_place forward)) (subject_places old))
