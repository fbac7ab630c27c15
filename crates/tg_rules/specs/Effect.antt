-- What a command does that is served, and how a refused growth is reported.
use Rattle.std.specs.Prelude.{◌≡◌, ◌↔◌, ℕ, ◌<◌, List, Option, Result, OnErr, OnOk}
use Rattle.tg_rights.specs.RightSet.{RightSet}
use Rattle.tg_model.specs.declared.value.Value.{Value}
use Rattle.std.specs.List.{All, Contains}
use Rattle.tg_model.specs.declared.command.Command.{Command}
use Rattle.tg_model.specs.declared.command.Command.TheVariants.{Take, Grant, Read, Inspect, List as Listing}
use Rattle.tg_model.specs.declared.reply.Reply.{Reply}
use Rattle.tg_model.specs.declared.reply.Reply.TheVariants.{Values, Edges}
use Rattle.tg_model.specs.Near.{reply_on_none}
use Rattle.tg_model.specs.Rules.{labels_after, subjects_after, values_after, reply_of}
use Rattle.tg_word.specs.Word.{nursery_space}
use Rattle.tg_space.specs.SpaceTable.{SpaceTable}
use Rattle.tg_rows.specs.Content.{Content, IsNamed, IsContent}
use Rattle.tg_graph.specs.Heap.{HeapState, IsUnchangedHeap, KeepsIndexes, KeepsPlaces}
use Rattle.tg_rows.specs.Rows.{IsVertexAt}
use Rattle.tg_rows.specs.Spots.{LacksCellsFor}
use Rattle.tg_word.specs.declared.Place.{Place}
use Rattle.tg_rules.specs.Parties.{owner_of_row}

-- The reply to a command of x that is served, whatever number above all names says how many vertices were made.
abbrev pub IsReplyOn : Content → ℕ → Command → Reply → Type 0
IsReplyOn c x command reply = (n : ℕ) → All (λ name. name < n) c.names → reply ≡ reply_of c.label c.value n x command

-- the new content is the old one after a command of x that is served
abbrev pub IsContentAfter : Content → Content → ℕ → Command → Type 0
IsContentAfter old new x command = IsContent new (IsNamed old) (labels_after old.label x command) (values_after old.value command)

-- limits and the places of vertices are as they were
pub record KeepsVertices (old new : HeapState) : Type 0 where
  pub limits : new.table.limits ≡ old.table.limits
  pub vertices : (x : ℕ) (p : Place) → IsVertexAt old.table.spaces x p → IsVertexAt new.table.spaces x p

-- the reply shows something, and not only that it is done
abbrev pub ShowsSomething : Reply → Type 0
ShowsSomething (Values values) = Unit {0}
ShowsSomething (Edges edges) = Unit {0}
ShowsSomething reply = ⊥

-- The command changes nothing where it is served: it is one whose reply shows something, on whatever graph, so on one without edges.
-- The law `looks_are_reads_inspects_and_lists` proves that it means `IsLook`.
abbrev pub OnlyLooks : Command → Type 0
OnlyLooks command = ShowsSomething (reply_on_none command)

-- the command is a read, an inspect or a list
abbrev pub IsLook : Command → Type 0
IsLook (Read y) = Unit {0}
IsLook (Inspect y) = Unit {0}
IsLook Listing = Unit {0}
IsLook command = ⊥

-- where the command of x is served, every label, every value and the subjects are as they were
pub record ChangesNothing (command : Command) : Type 0 where
  pub labels : (label : ℕ → ℕ → RightSet) (x : ℕ) → labels_after label x command ≡ label
  pub values : (value : ℕ → Option Value) → values_after value command ≡ value
  pub subjects : (subjects : List ℕ) (x : ℕ) → subjects_after subjects x command ≡ subjects

-- What a command that is to be served leaves as it was: where it is served the vertices stay, one that only looks changes nothing, and
-- nor does one that is refused.
pub record LeavesHeap {T E : Type 0} (command : Command) (old new : HeapState) (result : Result T E) : Type 0 where
  pub kept : OnOk result (KeepsVertices old new)
  pub looks : OnlyLooks command → new ≡ old
  pub refused : OnErr result (IsUnchangedHeap old new)

-- It is done, and the places are as they were; or it is refused, and so is all of the heap.
pub record IsDoneInPlace {T E : Type 0} (old new : HeapState) (result : Result T E) : Type 0 where
  pub kept : OnOk result (KeepsPlaces old new)
  pub refused : OnErr result (IsUnchangedHeap old new)

-- the command adds an edge, and so may need a cell for a reference
abbrev pub AddsEdge : Command → Type 0
AddsEdge (Take rights y z) = Unit {0}
AddsEdge (Grant rights y z) = Unit {0}
AddsEdge command = ⊥

-- the rows of the same vertices have an index
abbrev pub SameIndexes : HeapState → HeapState → Type 0
SameIndexes old new = (name : ℕ) → Contains new.indexed name ↔ Contains old.indexed name

-- Where the command of x adds an edge, the row that gets it has an index if it is long now, or had one. All other rows have one
-- where they had one.
pub record IndexesAfter (old new : HeapState) (x : ℕ) (command : Command) : Type 0 where
  pub added : AddsEdge command → (row : Place) × IsVertexAt old.table.spaces (owner_of_row x command) row × KeepsIndexes old new row
  pub others : ¬ AddsEdge command → SameIndexes old new

-- the edge that the command of x adds goes where more cells are needed than the nursery with this number, which x holds, has left
-- and gets
abbrev pub LacksCellsToServe : SpaceTable → ℕ → ℕ → Command → Type 0
LacksCellsToServe t nursery x (Take rights y z) = LacksCellsFor t (nursery_space nursery) 0 x z
LacksCellsToServe t nursery x (Grant rights y z) = LacksCellsFor t (nursery_space nursery) 0 y z
LacksCellsToServe t nursery x command = ⊥
