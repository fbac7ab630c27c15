-- What is decided of a command.
use Rattle.std.specs.Prelude.{◌≡◌, ℕ, Option, Some, None, false}
use Rattle.std.specs.List.{Contains}
use Rattle.tg_rights.specs.RightSet.{RightSet, is_none_held}
use Rattle.tg_model.specs.declared.command.Command.TheVariants.{Grant}
use Rattle.tg_model.specs.declared.reply.Denial.{Denial}
use Rattle.tg_model.specs.Graph.{with_rights}
use Rattle.tg_model.specs.Rules.{denial_of}
use Rattle.tg_subjects.specs.declared.subject.Subject.{Subject}
use Rattle.tg_graph.specs.Heap.{HeapState, nursery_of}
use Rattle.tg_rows.specs.Content.{Content}
use Rattle.tg_rows.specs.Rows.{IsVertexAt}
use Rattle.tg_rules.specs.declared.decision.Verdict.{Verdict}
use Rattle.tg_rules.specs.declared.decision.Verdict.TheVariants.{Served, Denied}
use Rattle.tg_rules.specs.declared.vertex.Vertex.{Vertex}

-- denied where there is a denial, and else served
abbrev pub verdict_of : Option Denial → Verdict
verdict_of None = Served
verdict_of (Some denial) = Denied denial

-- the denial of a grant of x to y over z, once x has taken the same rights over z
abbrev pub denial_once_taken : Content → ℕ → ℕ → ℕ → RightSet → Option Denial
denial_once_taken c x y z rights = denial_of (with_rights c.label x z rights) c.value x (Grant rights y z)

-- the heap has the vertex with this name at this place
abbrev pub HasVertex : HeapState → Vertex → Type 0
HasVertex s vertex = IsVertexAt s.table.spaces vertex.name vertex.place

-- the heap has a vertex with this name, which is this one
pub record IsVertexNamed (s : HeapState) (known : ℕ) (found : Vertex) : Type 0 where
  pub name : found.name ≡ known
  pub vertex : HasVertex s found

-- whether this vertex has these rights may be checked: the heap has the vertex, and some right is asked for
pub record MayCheck (s : HeapState) (vertex : Vertex) (rights : RightSet) : Type 0 where
  pub from : HasVertex s vertex
  pub some : is_none_held rights ≡ false

-- it is an active subject of the heap, which holds this nursery and is the vertex with its name, at its place
pub record HasSubject (s : HeapState) (subject : Subject) : Type 0 where
  pub there : Contains s.subjects subject
  pub nursery : subject.nursery ≡ nursery_of s subject.name
  pub vertex : IsVertexAt s.table.spaces subject.name subject.place
