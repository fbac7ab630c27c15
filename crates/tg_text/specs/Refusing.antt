-- Which answers say that a line was denied or refused.
use Rattle.std.specs.Prelude.{Bool, true, false}
use Rattle.tg_model.specs.declared.reply.Reply.{Reply}
use Rattle.tg_model.specs.declared.reply.Reply.TheVariants.{Done, Name, Values, Edges, Denied, VerticesFull, WorkersFull}
use Rattle.tg_text.specs.declared.answer.Answer.{Answer}
use Rattle.tg_text.specs.declared.answer.Answer.TheVariants as told

-- the command was denied, or no vertex could be made
abbrev pub says_denial : Reply → Bool
says_denial Done = false
says_denial (Name name) = false
says_denial (Values values) = false
says_denial (Edges edges) = false
says_denial (Denied denial) = true
says_denial VerticesFull = true
says_denial WorkersFull = true

-- the line was denied or refused
abbrev pub says_refusal : Answer → Bool
says_refusal (told.Reply reply) = says_denial reply
says_refusal (told.Collected kept) = false
says_refusal (told.Refused why) = true
