-- What an opening has made of its cells on the way.
use Rattle.std.specs.Prelude.{[], ◌≡◌, ℕ, ◌<◌, ◌≤◌, ◌==◌, nat_lt, if◌then◌else◌, List, length, slice_get, slice_index_or, Some}
use Rattle.tg_rights.specs.RightSet.{RightSet, no_rights}
use Rattle.tg_model.specs.declared.edge.Edge.{Edge}
use Rattle.tg_model.specs.declared.value.Value.{Value}
use Rattle.tg_model.specs.Opened.{label_in}
use Rattle.tg_word.specs.Word.{nursery_space}
use Rattle.tg_word.specs.declared.Place.{Place}
use Rattle.tg_word.specs.declared.TheConstants.{MAX_NURSERIES, SPACES}
use Rattle.tg_subjects.specs.Subjects.{subject_places}
use Rattle.tg_subjects.specs.declared.subject.Subject.{Subject}
use Rattle.tg_space.specs.Generations.{AreRemembered}
use Rattle.tg_rows.specs.declared.cells.Cells.{Cells}
use Rattle.tg_graph.specs.declared.opening.Room.{Room}
use Rattle.tg_block.specs.Cells.{free_cell}
use Rattle.tg_space.specs.SpaceList.{HasCell, block_count, cell_at, space_of}
use Rattle.tg_space.specs.SpaceTable.{AreLimits, IsSpaceTable, SpaceTable, BlockLimits, used_of}
use Rattle.tg_payload.specs.Table.{Payloads}
use Rattle.tg_rows.specs.Content.{IsContent, IsNamed}
use Rattle.tg_rows.specs.Rows.{IsVertexAt}
use Rattle.tg_rows.specs.Graph.{IsGraph, content_in}
use Rattle.tg_rows.specs.Steps.{ChangesTo}

-- no space has a block, and no cell was handed out
pub record HasNoBlocks (t : SpaceTable) : Type 0 where
  pub blocks : (space : ℕ) → space_of t.spaces space ≡ []
  pub unused : (space : ℕ) → used_of t space ≡ 0

-- The nursery of each worker has a block, and no other space has one; no cell was handed out, and all are free.
pub record HasBlocks (t : SpaceTable) (workers : ℕ) (limits : BlockLimits) : Type 0 where
  pub table : IsSpaceTable t
  pub spaces : SPACES ≤ length t.spaces
  pub limits_kept : t.limits ≡ limits
  pub blocks : (x : ℕ) → x < workers → 1 ≤ length (space_of t.spaces (nursery_space x))
  pub few : block_count t.spaces ≤ workers
  pub old : length (space_of t.spaces 0) ≡ 0
  pub unused : (space : ℕ) → used_of t space ≡ 0
  pub free : (p : Place) → HasCell t.spaces p → cell_at t.spaces p ≡ free_cell

-- The first workers are at these places and have these values, and the labels between them are these. The nursery of each
-- worker has a block, and no other space has one.
pub record IsOpened (t : SpaceTable) (payloads : Payloads) (places : List Place) (workers : ℕ) (limits : BlockLimits) (label : ℕ → ℕ → RightSet) (values : List Value) : Type 0 where
  pub graph : IsGraph t.spaces payloads
  pub content : IsContent (content_in t.spaces payloads) (λ x. x < length places) label (slice_get values)
  pub vertices : (x : ℕ) (p : Place) → slice_get places x ≡ Some p → IsVertexAt t.spaces x p
  pub spaces : SPACES ≤ length t.spaces
  pub limits_kept : t.limits ≡ limits
  pub blocks : (x : ℕ) → x < workers → 1 ≤ length (space_of t.spaces (nursery_space x))
  pub all : block_count t.spaces ≡ workers
  pub old : length (space_of t.spaces 0) ≡ 0

-- the rights of each over each in these cells
abbrev pub labels_in : {P : Type 0} → Cells P → ℕ → ℕ → RightSet
labels_in cells = (content_in cells.spaces.spaces cells.payloads).label

-- no rights of anyone over anyone
abbrev pub no_labels : ℕ → ℕ → RightSet
no_labels x y = no_rights

-- the rights of one vertex over each other are these
abbrev pub with_row : (ℕ → ℕ → RightSet) → ℕ → List RightSet → ℕ → ℕ → RightSet
with_row label x row a b = if a == x then slice_index_or row b no_rights else label a b

-- what the edges give the first of the workers, and nobody else anything
abbrev pub labels_before : List Edge → ℕ → ℕ → ℕ → RightSet
labels_before edges n a b = if nat_lt a n then label_in edges a b else no_rights

-- ---- what the steps of an opening are handed, and what they keep

-- there is a worker, and there are no more workers than nurseries
pub record AreFewWorkers (workers : ℕ) : Type 0 where
  pub some : 1 ≤ workers
  pub few : workers ≤ MAX_NURSERIES

-- these spaces can get a first block for each of so many workers: none has any, and as many are allowed
pub record CanGetBlocks (t : SpaceTable) (n : ℕ) : Type 0 where
  pub workers : AreFewWorkers n
  pub limits : AreLimits t.limits
  pub empty : HasNoBlocks t
  pub spaces : SPACES ≤ length t.spaces
  pub allowed : n ≤ t.limits.max_blocks

-- nothing is in the room yet, and it is enough for so many workers
pub record IsRoomFor {P : Type 0} (workers : ℕ) (room : Room P) : Type 0 where
  pub payloads : room.cells.payloads.entries ≡ []
  pub spare : workers ≤ room.cells.payloads.spare
  pub subjects : room.subjects ≡ []
  pub row : length room.row.items ≡ workers
  pub remembered : room.cells.remembered.places ≡ []

-- the same, and the nursery of each worker has its block
pub record IsReadyFor {P : Type 0} (workers : ℕ) (limits : BlockLimits) (ready : Room P) : Type 0 where
  pub room : IsRoomFor workers ready
  pub nurseries : HasBlocks ready.cells.spaces workers limits

-- the subjects are vertices of the graph in these cells, each with its number as its name, and Old has no block
pub record AreWorkers {P : Type 0} (cells : Cells P) (workers : List Subject) : Type 0 where
  pub few : length workers ≤ MAX_NURSERIES
  pub graph : IsGraph cells.spaces.spaces cells.payloads
  pub spaces : SPACES ≤ length cells.spaces.spaces
  pub vertices : (x : ℕ) (p : Place) → slice_get (subject_places workers) x ≡ Some p → IsVertexAt cells.spaces.spaces x p
  pub old : length (space_of cells.spaces.spaces 0) ≡ 0

-- the worker with a number has no edge yet: in its nursery, which has a block, is its object alone
pub record IsUnjoined {P : Type 0} (cells : Cells P) (subjects : List Subject) (from : ℕ) : Type 0 where
  pub workers : AreWorkers cells subjects
  pub inside : from < length subjects
  pub labels : (y : ℕ) → labels_in cells from y ≡ no_rights
  pub unused : used_of cells.spaces (nursery_space from) ≤ 1
  pub block : 1 ≤ length (space_of cells.spaces.spaces (nursery_space from))

-- The labels became these, and nothing else of the graph is another. Payloads and blocks are as they were, and each cell of Old
-- that has to be remembered still is.
pub record Relabels {P : Type 0} (old new : Cells P) (label : ℕ → ℕ → RightSet) : Type 0 where
  pub changed : let content = content_in old.spaces.spaces old.payloads in ChangesTo old.spaces new.spaces old.payloads (IsNamed content) label content.value
  pub payloads : new.payloads ≡ old.payloads
  pub blocks : (space : ℕ) → length (space_of new.spaces.spaces space) ≡ length (space_of old.spaces.spaces space)
  pub remembered : AreRemembered old.spaces.spaces old.remembered.places → AreRemembered new.spaces.spaces new.remembered.places
