-- What contracts see of a `Heap`, when it is well formed, and its content.
use Rattle.std.specs.Prelude.{◌≡◌, ◌≢◌, ◌↔◌, ℕ, ◌≤◌, ◌++◌, ◌⊎◌, List, [], ◌∷◌, length, map, Result, Err, OnOk, OnErr, IfOk, IfErr}
use Rattle.std.specs.List.{All, Contains}
use Rattle.tg_rights.specs.RightSet.{RightSet}
use Rattle.tg_model.specs.Graph.{with_rights, without_rights}
use Rattle.tg_model.specs.Rules.{with_value, written_at}
use Rattle.tg_model.specs.declared.value.Value.{Value}
use Rattle.tg_word.specs.Word.{nursery_space, place_in}
use Rattle.tg_word.specs.declared.Place.{Place}
use Rattle.tg_word.specs.declared.TheConstants.{SPACES}
use Rattle.tg_subjects.specs.Subjects.{AreSubjects, IsLeastFree, names_of, nursery_held, subject_places}
use Rattle.tg_subjects.specs.declared.subject.Subject.{Subject}
use Rattle.tg_block.specs.declared.CellKind.TheVariants.{Object}
use Rattle.tg_space.specs.SpaceList.{SpaceList}
use Rattle.tg_space.specs.SpaceTable.{SpaceTable}
use Rattle.tg_space.specs.Soundness.{IsKindAt, IsRootIn}
use Rattle.tg_space.specs.Collection.{Collected, IsCollection}
use Rattle.tg_space.specs.Targets.{all_root_targets, from_space, young_spaces}
use Rattle.tg_space.specs.declared.root.Root.{Root}
use Rattle.tg_space.specs.declared.root.Root.TheVariants.{Row, Remembered}
use Rattle.tg_space.specs.declared.kind.Kind.{Kind}
use Rattle.tg_space.specs.declared.kind.Kind.TheVariants.{Full, Nursery}
use Rattle.tg_space.specs.Generations.{AreRemembered}
use Rattle.tg_payload.specs.Table.{Payloads}
use Rattle.tg_space.specs.declared.room_fault.RoomFault.{RoomFault}
use Rattle.tg_space.specs.declared.room_fault.RoomFault.TheVariants.{HeapFull}
use Rattle.tg_rows.specs.declared.cells.Cells.{Cells}
use Rattle.tg_rows.specs.declared.cells.VertexRefused.{VertexRefused}
use Rattle.tg_rows.specs.declared.indexed_row.IndexedRow.{IndexedRow}
use Rattle.tg_rows.specs.Index.{names_indexed}
use Rattle.tg_rows.specs.Content.{Content, IsContent, IsNamed}
use Rattle.tg_rows.specs.Spots.{IsMadeInRow, IsPutInRow, LacksCellsFor}
use Rattle.tg_rows.specs.Rows.{IsVertexAt, name_at}
use Rattle.tg_rows.specs.Graph.{content_in, IsGraph, IsLongRow}

-- The cells of all spaces, the table of payloads, the active subjects by rising name, which cells of Old are
-- remembered, in the order in which they were noted, and the names of the vertices of which the row has an index.
pub record HeapState : Type 0 where
  pub table : SpaceTable
  pub payloads : Payloads
  pub subjects : List Subject
  pub remembered : List Place
  pub indexed : List ℕ

-- the heap with these cells, subjects and indexes
abbrev pub heap_of : {P : Type 0} → Cells P → List Subject → List (ℕ × IndexedRow) → HeapState
heap_of cells subjects rows = record { table = cells.spaces; payloads = cells.payloads; subjects = subjects; remembered = cells.remembered.places; indexed = names_indexed cells.spaces.spaces rows }

-- ---- active subjects

-- the names of the active subjects, rising
abbrev pub subject_names : HeapState → List ℕ
subject_names s = names_of s.subjects

-- an active subject has this name
abbrev pub IsActive : HeapState → ℕ → Type 0
IsActive s x = Contains (subject_names s) x

-- the number of the nursery that the active subject with a name holds
abbrev pub nursery_of : HeapState → ℕ → ℕ
nursery_of s x = nursery_held s.subjects x

-- ---- content

abbrev pub content_of : HeapState → Content
content_of s = content_in s.table.spaces s.payloads

-- there is a vertex with this name, which stores this value, and the worker has rights over it
abbrev pub AddsVertex : HeapState → HeapState → ℕ → ℕ → RightSet → Value → Type 0
AddsVertex old new worker name label value = let content = content_of old in
    IsContent (content_of new) (λ x. IsNamed content x ⊎ (x ≡ name)) (with_rights content.label worker name label) (with_value content.value name value)

-- the vertex at one place has more rights over the vertex at another
abbrev pub AddsRights : HeapState → HeapState → Place → Place → RightSet → Type 0
AddsRights old new from to label = let content = content_of old in
    IsContent (content_of new) (IsNamed content) (with_rights content.label (name_at old.table.spaces from) (name_at old.table.spaces to) label) content.value

-- the vertex at a place has fewer rights over the vertex with a name
abbrev pub DropsRights : HeapState → HeapState → Place → ℕ → RightSet → Type 0
DropsRights old new from name label = let content = content_of old in
    IsContent (content_of new) (IsNamed content) (without_rights content.label (name_at old.table.spaces from) name label) content.value

-- a number was written to the vertex at a place
abbrev pub WritesTo : HeapState → HeapState → Place → ℕ → Type 0
WritesTo old new at number = let content = content_of old in
    IsContent (content_of new) (IsNamed content) content.label (written_at content.value (name_at old.table.spaces at) number)

-- ---- well-formed heaps

-- What a collection starts from: the rows of the active subjects, by rising name; for a nursery collection the remembered
-- cells too, in the order in which they were noted.
abbrev pub roots_of : Kind → HeapState → List Root
roots_of Full s = map (λ p. Row p) (subject_places s.subjects)
roots_of Nursery s = map (λ p. Row p) (subject_places s.subjects) ++ map (λ p. Remembered p) s.remembered

-- the collections from these roots are those from the others
abbrev pub CollectAlike : Kind → SpaceList → List Root → List Root → Type 0
CollectAlike kind h roots others =
    (made : Collected) → IsCollection kind h roots made ↔ IsCollection kind h others made

-- these roots reach the same cells as the others
abbrev pub ReachAlike : Kind → SpaceList → List Root → List Root → Type 0
ReachAlike kind h roots others = all_root_targets (from_space kind) h others ≡ all_root_targets (from_space kind) h roots

-- the young cells that the rows of the active subjects name
abbrev pub reached_by_rows : HeapState → List ℕ
reached_by_rows s = all_root_targets young_spaces s.table.spaces (map (λ p. Row p) (subject_places s.subjects))

-- the root represents a row from a cell on
pub record IsRowRoot (h : SpaceList) (root : Root) : Type 0 where
  pub cell : Place
  pub is : root ≡ Row cell
  pub sound : IsRootIn h root

-- a word that names a young cell names one on which a row goes on, or with which it begins
abbrev pub NamesRow : SpaceList → ℕ → Type 0
NamesRow h word = (place_in word).space ≢ 0 → IsRootIn h (Row (place_in word))

-- roots of rows came after others, and these are their young targets
pub record AddsRoots (h : SpaceList) (reached : List ℕ) (roots later : List Root) : Type 0 where
  pub more : List Root
  pub is : later ≡ roots ++ more
  pub rows : All (IsRowRoot h) more
  pub targets : all_root_targets young_spaces h more ≡ reached

-- A heap's cells are those of a graph with its active subjects.
pub record IsWellFormed (s : HeapState) : Type 0 where
  pub graph : IsGraph s.table.spaces s.payloads
  -- names rise, and each active subject has a nursery of its own
  pub subjects : AreSubjects s.subjects
  -- each active subject is the vertex with its name, at its place
  pub vertices : All (λ x. IsVertexAt s.table.spaces x.name x.place) s.subjects
  -- there are Old, Aged and all nurseries, held or not
  pub nurseries : SPACES ≤ length s.table.spaces
  -- each cell of Old that names a young one is remembered
  pub remembered : AreRemembered s.table.spaces s.remembered

-- two heaps are the same but for room for more payloads and notes
pub record IsUnchangedHeap (old new : HeapState) : Type 0 where
  pub table : new.table ≡ old.table
  pub entries : new.payloads.entries ≡ old.payloads.entries
  pub subjects : new.subjects ≡ old.subjects
  pub remembered : new.remembered ≡ old.remembered
  pub indexed : new.indexed ≡ old.indexed

-- ---- what a call finds, and what it keeps

-- the place names an object of the heap
abbrev pub IsObject : HeapState → Place → Type 0
IsObject s p = IsKindAt s.table.spaces Object p

abbrev pub name_of : HeapState → Place → ℕ
name_of s p = name_at s.table.spaces p

-- the object of each of these subjects lies in the nursery that the subject holds
abbrev pub AreAtHome : List Subject → Type 0
AreAtHome subjects = All (λ x. x.place.space ≡ nursery_space x.nursery) subjects

-- active subjects, limits and the places of vertices are as they were
pub record KeepsPlaces (old new : HeapState) : Type 0 where
  pub subjects : new.subjects ≡ old.subjects
  pub limits : new.table.limits ≡ old.table.limits
  pub vertices : (x : ℕ) (p : Place) → IsVertexAt old.table.spaces x p → IsVertexAt new.table.spaces x p

-- The row of the object at a place has an index if it is long now, and keeps the one that it had. Each other row has one where it
-- had one.
pub record KeepsIndexes (old new : HeapState) (from : Place) : Type 0 where
  pub made : IsLongRow new.table.spaces from → Contains new.indexed (name_of old from)
  pub kept : Contains old.indexed (name_of old from) → Contains new.indexed (name_of old from)
  pub others : (x : ℕ) → x ≢ name_of old from → Contains new.indexed x ↔ Contains old.indexed x

-- The vertex with a name is an active subject now, the last one, and holds the least nursery number that none held. Limits and
-- the places of vertices are as they were.
pub record AddsSubject (old new : HeapState) (name : ℕ) : Type 0 where
  pub subject : Subject
  pub named : subject.name ≡ name
  pub nursery : IsLeastFree old.subjects subject.nursery
  pub vertex : IsVertexAt new.table.spaces name subject.place
  pub subjects : new.subjects ≡ old.subjects ++ subject ∷ []
  pub limits : new.table.limits ≡ old.table.limits
  pub vertices : (x : ℕ) (p : Place) → IsVertexAt old.table.spaces x p → IsVertexAt new.table.spaces x p

-- ---- what the calls that make a vertex or add an edge ask for, and what they do

-- a worker may add an edge between the vertices at two places: it is an active subject, and there are objects
pub record MayAddEdge (s : HeapState) (x : ℕ) (p q : Place) : Type 0 where
  pub worker : IsActive s x
  pub from : IsObject s p
  pub to : IsObject s q

-- The vertex at one place has rights over the vertex at another: a reference is in its row, which has an index if it is long, and may
-- have taken a cell from the nursery with a number. Where it is refused nothing is changed, and it is reported as a full heap only
-- where more cells are needed than that nursery has left and gets.
pub record AddsEdgeFor {A : Type 0} (old new : HeapState) (nursery : ℕ) (from to : Place) (label : RightSet) (result : Result A RoomFault) : Type 0 where
  pub added : OnOk result (AddsRights old new from to label)
  pub placed : OnOk result (IsPutInRow old.table new.table old.remembered new.remembered (nursery_space nursery) from to label)
  pub kept : OnOk result (KeepsPlaces old new)
  pub indexed : OnOk result (KeepsIndexes old new from)
  pub refused : OnErr result (new ≡ old)
  pub full : result ≡ Err HeapFull → LacksCellsFor old.table (nursery_space nursery) 0 (name_of old from) (name_of old to)

-- a worker may make a vertex with this name: it is an active subject, and no vertex has the name
pub record MayMake (s : HeapState) (x name : ℕ) : Type 0 where
  pub worker : IsActive s x
  pub fresh : ¬ IsNamed (content_of s) name

-- the new vertex with this name is where it is reported, and active subjects, limits and the places of all others are as they
-- were
pub record TellsPlace {E : Type 0} (old new : HeapState) (name : ℕ) (result : Result Place E) : Type 0 where
  pub vertex : IfOk result (IsVertexAt new.table.spaces name)
  pub kept : OnOk result (KeepsPlaces old new)

-- There is a vertex with this name, which stores this value, and the worker's has rights over it. It is the next cell of the nursery
-- that the worker holds, and the worker's row has an index if it is long. Where it is refused the draft comes back and the heap is as
-- it was, but for room; it is reported as a full heap only where more cells are needed than the nursery has left and gets.
pub record MakesVertexFor {P A : Type 0} (old new : HeapState) (worker name : ℕ) (label : RightSet) (draft : Value) (result : Result A (VertexRefused P)) : Type 0 where
  pub made : OnOk result (AddsVertex old new worker name label draft)
  pub placed : OnOk result (IsMadeInRow old.table new.table old.remembered new.remembered (nursery_space (nursery_of old worker)) worker name label)
  pub indexed : OnOk result ((row : Place) × IsVertexAt old.table.spaces worker row × KeepsIndexes old new row)
  pub handed_back : IfErr result (λ refused. refused.draft ≡ draft)
  pub refused : OnErr result (IsUnchangedHeap old new)
  pub full : IfErr result (λ refused. refused.why ≡ HeapFull → LacksCellsFor old.table (nursery_space (nursery_of old worker)) 1 worker name)
