-- What the calls on the vertices and the graph of an audit promise: each set of clauses is once, and has a name.
use Rattle.std.specs.Prelude.{◌≡◌, ◌<◌, ◌↔◌, IsTrue, map, nat_eq, true, ℕ, List, Option, Result, IfErr, IfOk, OnErr, OnOk}
use Rattle.std.specs.Set.{is_member}
use Rattle.tg_rights.specs.RightSet.{RightSet}
use Rattle.tg_model.specs.declared.command.Command.{Command}
use Rattle.tg_model.specs.declared.command.Deed.{Deed}
use Rattle.tg_model.specs.declared.reply.Reply.{Reply}
use Rattle.tg_model.specs.declared.reply.Reply.TheVariants.{Done}
use Rattle.tg_model.specs.declared.value.Value.{Value}
use Rattle.tg_model.specs.Graph.{ProtectionGraph, HasEdge}
use Rattle.tg_model.specs.Plain.{Edges}
use Rattle.tg_model.specs.Rules.{answer_of, effect, reply_of, step}
use Rattle.tg_journal.specs.declared.entry.Entry.{Entry}
use Rattle.tg_journal.specs.declared.replay.AuditFault.{AuditFault}
use Rattle.tg_journal.specs.declared.replay.AuditFault.TheVariants.{OutOfMemory, BadEntry}
use Rattle.tg_journal.specs.declared.vertices.Vertex.{Vertex}
use Rattle.tg_journal.specs.Auditing.{StandsAt}
use Rattle.tg_journal.specs.History.{IsLegalEntry}
use Rattle.tg_journal.specs.Live.{AuditState, KeptGraph, IsSameGraph, HasVertexAt, IsGap, graph_kept, label_between, value_of}

-- This is answered, and the graph becomes the next one; where memory runs out, it is as before but for what names store that
-- weren't made yet.
pub record AnswersStep {E : Type 0} (old new : ProtectionGraph) (answer : Reply) (next : ProtectionGraph) (result : Result Reply E) : Type 0 where
  pub reply : IfOk result (λ reply. reply ≡ answer)
  pub step : OnOk result (new ≡ next)
  pub refused : OnErr result (IsSameGraph old new)

-- the graph that is kept answers and does what the rules say of a deed
abbrev pub TakesDeed : {E : Type 0} → KeptGraph → KeptGraph → ℕ → Deed → Result Reply E → Type 0
TakesDeed old new worker deed result =
    AnswersStep (graph_kept old) (graph_kept new) (answer_of (graph_kept old) worker deed) (step (graph_kept old) worker deed) result

-- and of a command that is served
abbrev pub TakesServed : {E : Type 0} → KeptGraph → KeptGraph → ℕ → Command → Result Reply E → Type 0
TakesServed old new worker command result =
    AnswersStep (graph_kept old) (graph_kept new) (reply_of (graph_kept old).label (graph_kept old).value (graph_kept old).made worker command)
    (effect (graph_kept old) worker command) result

-- it answers that it is done, and becomes this
abbrev pub IsDoneTo : {E : Type 0} → KeptGraph → KeptGraph → ProtectionGraph → Result Reply E → Type 0
IsDoneTo old new next result = AnswersStep (graph_kept old) (graph_kept new) Done next result

-- the place of the vertex with a name, or where it would go
pub record FindsPlace (vs : List Vertex) (x : ℕ) (result : Result ℕ ℕ) : Type 0 where
  pub found : IfOk result (HasVertexAt vs x)
  pub absent : IfErr result (IsGap vs x)

-- each edge from a vertex leads to a name below this
abbrev pub HasTargetsBelow : List Vertex → ℕ → ℕ → Type 0
HasTargetsBelow vs from n = (y : ℕ) → HasEdge (label_between vs) from y → y < n

-- the edges of a row lead to exactly those to which the vertex has an edge
abbrev pub AreTargetsOf : List Vertex → ℕ → Edges → Type 0
AreTargetsOf vs from row = (y : ℕ) → IsTrue (is_member nat_eq (map (λ e. e.0) row) y) ↔ HasEdge (label_between vs) from y

-- the vertices have these labels and values then; where memory runs out, they are as they were
pub record Changes {A E : Type 0} (old new : List Vertex) (label : ℕ → ℕ → RightSet) (value : ℕ → Option Value) (result : Result A E) : Type 0 where
  pub labels : OnOk result (label_between new ≡ label)
  pub values : OnOk result ((y : ℕ) → value_of new y ≡ value y)
  pub err : OnErr result (new ≡ old)

-- the auditor stopped before this entry: memory ran out, or it is bad
abbrev pub StopsBefore : AuditState → AuditState → Entry → AuditFault → Type 0
StopsBefore old new e OutOfMemory = (new.at ≡ old.at) × ((g : ProtectionGraph) → StandsAt g old → StandsAt g new)
StopsBefore old new e (BadEntry at) = (at ≡ old.at) × (new.at ≡ old.at) × (new.found_bad ≡ true) × ((g : ProtectionGraph) → StandsAt g old → ¬ IsLegalEntry g e)
