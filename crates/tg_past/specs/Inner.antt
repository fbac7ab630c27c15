-- How a history is replayed on a picture: its entries backwards for the edges, and forwards for who is active.
use Rattle.std.specs.Prelude.{◌≡◌, ℕ, ◌+◌, ◌<◌, ◌^◌, ◌-◌, min, List, [], ◌∷◌, ◌++◌}
use Rattle.std.specs.Option.{unwrap_or}
use Rattle.std.specs.Ordering.{nat_cmp}
use Rattle.std.specs.BTreeMap.{get}
use Rattle.tg_rights.specs.RightSet.{RightSet, union, minus}
use Rattle.tg_model.specs.declared.command.Command.{Command}
use Rattle.tg_model.specs.declared.command.Command.TheVariants.{Take, Grant, Remove, Read, Write, Append, Inspect, List as Listing, Retire}
use Rattle.tg_model.specs.declared.command.Deed.{Deed}
use Rattle.tg_model.specs.declared.command.Deed.TheVariants.{Create, Spawn, Plain}
use Rattle.tg_model.specs.declared.reply.Reply.{Reply}
use Rattle.tg_model.specs.declared.reply.Reply.TheVariants.{Done, Name, Values, Edges, Denied, VerticesFull, WorkersFull}
use Rattle.tg_model.specs.Graph.{ProtectionGraph, with_rights, without_rights}
use Rattle.tg_model.specs.Opened.{label_in}
use Rattle.tg_model.specs.Plain.{rights_in_row}
use Rattle.tg_model.specs.Rules.{subjects_after}
use Rattle.tg_journal.specs.declared.entry.Entry.{Entry}
use Rattle.tg_journal.specs.History.{IsLegal, graph_after}
use Rattle.tg_past.specs.declared.actors.Actors.{Actors}
use Rattle.tg_past.specs.declared.change.Change.{Change}
use Rattle.tg_past.specs.declared.change.Change.TheVariants.{Adds, Loses, Nothing}
use Rattle.tg_past.specs.declared.edges.LastEdges.{LastEdges}
use Rattle.tg_past.specs.declared.lost.LostRights.{LostRights}

-- ---- what an entry changes of the labels

-- the labels after a change
abbrev pub changed : Change → (ℕ → ℕ → RightSet) → ℕ → ℕ → RightSet
changed (Adds edge) label = with_rights label edge.from edge.to edge.label
changed (Loses edge) label = without_rights label edge.from edge.to edge.label
changed Nothing label = label

-- what a command of x changes that is served
abbrev pub served_by : ℕ → Command → Change
served_by x (Take rights y z) = Adds (record { from = x; to = z; label = rights })
served_by x (Grant rights y z) = Adds (record { from = y; to = z; label = rights })
served_by x (Remove rights y) = Loses (record { from = x; to = y; label = rights })
served_by x (Read y) = Nothing
served_by x (Write y v) = Nothing
served_by x (Append y v) = Nothing
served_by x (Inspect y) = Nothing
served_by x Listing = Nothing
served_by x Retire = Nothing

-- what a command of x changes that is answered this
abbrev pub change_by : ℕ → Command → Reply → Change
change_by x command Done = served_by x command
change_by x command (Name name) = Nothing
change_by x command (Values values) = Nothing
change_by x command (Edges edges) = Nothing
change_by x command (Denied denial) = Nothing
change_by x command VerticesFull = Nothing
change_by x command WorkersFull = Nothing

-- what x changes by asking for a vertex, and being answered this
abbrev pub change_of_making : ℕ → RightSet → Reply → Change
change_of_making x label Done = Nothing
change_of_making x label (Name name) = Adds (record { from = x; to = name; label = label })
change_of_making x label (Values values) = Nothing
change_of_making x label (Edges edges) = Nothing
change_of_making x label (Denied denial) = Nothing
change_of_making x label VerticesFull = Nothing
change_of_making x label WorkersFull = Nothing

abbrev pub change_of_deed : ℕ → Reply → Deed → Change
change_of_deed x reply (Create label law state) = change_of_making x label reply
change_of_deed x reply (Spawn label law state) = change_of_making x label reply
change_of_deed x reply (Plain command) = change_by x command reply

-- what an entry changes
abbrev pub change_in : Entry → Change
change_in e = change_of_deed e.worker e.reply e.deed

-- ---- edges, of which the entries from some place on were read

-- the rights over b that are taken from a
abbrev pub lost_over : LostRights → ℕ → ℕ → RightSet
lost_over lost a b = rights_in_row (unwrap_or (get nat_cmp lost.rows a) []) b

-- what is left at last of these labels, together with what is added
abbrev pub left_after : LastEdges → (ℕ → ℕ → RightSet) → ℕ → ℕ → RightSet
left_after s label a b = union (minus (label a b) (lost_over s.lost a b)) (label_in s.edges.items a b)

-- these entries are those that were read
abbrev pub Finishes : LastEdges → List Entry → Type 0
Finishes s rest = (g : ProtectionGraph) → IsLegal g rest → (a b : ℕ) → (graph_after g rest).label a b ≡ left_after s g.label a b

-- ---- who is active

-- how many vertices were made after an answer
abbrev pub made_by : ℕ → Reply → ℕ
made_by made Done = made
made_by made (Name name) = min (name + 1) (2 ^ 64 - 1)
made_by made (Values values) = made
made_by made (Edges edges) = made
made_by made (Denied denial) = made
made_by made VerticesFull = made
made_by made WorkersFull = made

-- the subjects after an answer to one who asked for a subject
abbrev pub enlisted_by : List ℕ → Reply → List ℕ
enlisted_by subjects Done = subjects
enlisted_by subjects (Name name) = subjects ++ name ∷ []
enlisted_by subjects (Values values) = subjects
enlisted_by subjects (Edges edges) = subjects
enlisted_by subjects (Denied denial) = subjects
enlisted_by subjects VerticesFull = subjects
enlisted_by subjects WorkersFull = subjects

-- the subjects after a deed of x
abbrev pub subjects_by : List ℕ → ℕ → Reply → Deed → List ℕ
subjects_by subjects x reply (Create label law state) = subjects
subjects_by subjects x reply (Spawn label law state) = enlisted_by subjects reply
subjects_by subjects x reply (Plain command) = subjects_after subjects x command

-- what an entry leaves of the subjects, and of the number of vertices
pub record Follows (s : Actors) (e : Entry) (t : Actors) : Type 0 where
  pub subjects : t.subjects.items ≡ subjects_by s.subjects.items e.worker e.reply e.deed
  pub made : t.made ≡ made_by s.made e.reply

-- the subjects of the graph, and how many vertices were made
pub record HasActors (g : ProtectionGraph) (s : Actors) : Type 0 where
  pub subjects : g.subjects ≡ s.subjects.items
  pub made : g.made ≡ s.made
