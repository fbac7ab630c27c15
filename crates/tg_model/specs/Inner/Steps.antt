-- What private calls on the plain graph and on lists of numbers promise: each set of clauses is once, and has a name.
use Rattle.std.specs.Prelude.{◌≡◌, ℕ, Result, IfOk, OnErr, OnOk}
use Rattle.tg_model.specs.declared.command.Command.{Command}
use Rattle.tg_model.specs.declared.command.Deed.{Deed}
use Rattle.tg_model.specs.declared.reply.Reply.{Reply}
use Rattle.tg_model.specs.Graph.{ProtectionGraph}
use Rattle.tg_model.specs.Plain.{PlainGraph, graph_of}
use Rattle.tg_model.specs.Rules.{answer_of, effect, reply_in, step}

-- it becomes this; where memory runs out, it is as it was
pub record Becomes {X T E : Type 0} (old new next : X) (result : Result T E) : Type 0 where
  pub kept : OnOk result (new ≡ next)
  pub refused : OnErr result (new ≡ old)

-- the graph becomes this one; where memory runs out, it is as it was
pub record BecomesGraph {T E : Type 0} (old new : PlainGraph) (next : ProtectionGraph) (result : Result T E) : Type 0 where
  pub ok : OnOk result (graph_of new ≡ next)
  pub err : OnErr result (new ≡ old)

-- this is answered, and the graph becomes the next one; where memory runs out, it is as it was
pub record AnswersGraph {E : Type 0} (old new : PlainGraph) (answer : Reply) (next : ProtectionGraph) (result : Result Reply E) : Type 0 where
  pub reply : IfOk result (λ reply. reply ≡ answer)
  pub step : OnOk result (graph_of new ≡ next)
  pub err : OnErr result (new ≡ old)

-- so a deed is answered
abbrev pub AnswersDeed : {E : Type 0} → PlainGraph → PlainGraph → ℕ → Deed → Result Reply E → Type 0
AnswersDeed old new worker deed result =
    AnswersGraph old new (answer_of (graph_of old) worker deed) (step (graph_of old) worker deed) result

-- and a command that is served
abbrev pub AnswersServed : {E : Type 0} → PlainGraph → PlainGraph → ℕ → Command → Result Reply E → Type 0
AnswersServed old new worker command result =
    AnswersGraph old new (reply_in (graph_of old) worker command) (effect (graph_of old) worker command) result
