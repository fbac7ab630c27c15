-- The texts of answers: one line each. Numbers are decimal without leading zeros, and rights are in the order r w t g a l u v.
use Rattle.std.specs.Prelude.{ℕ, List, [], ◌∷◌, ◌++◌, Option, Some, None, codes, decimal}
use Rattle.std.specs.List.{flat_map}
use Rattle.tg_rights.specs.RightSet.{RightSet, text_of}
use Rattle.tg_model.specs.declared.reply.Reply.{Reply}
use Rattle.tg_model.specs.declared.reply.Reply.TheVariants.{Done, Name, Values, Edges, Denied, VerticesFull, WorkersFull}
use Rattle.tg_model.specs.declared.reply.Denial.{Denial}
use Rattle.tg_model.specs.declared.reply.Rule.{Rule}
use Rattle.tg_model.specs.declared.reply.Cause.{Cause}
use Rattle.tg_model.specs.declared.reply.Cause.TheVariants.{NotDistinct, Missing, NotLog}
use Rattle.tg_model.specs.Commands.{verb_of, word_of}
use Rattle.tg_text.specs.declared.answer.Answer.{Answer}
use Rattle.tg_text.specs.declared.answer.Answer.TheVariants as answer
use Rattle.tg_text.specs.declared.answer.Refusal.{Refusal}
use Rattle.tg_text.specs.declared.answer.Refusal.TheVariants as refusal

-- the word of the commands that it is of
abbrev pub rule_text : Rule → List ℕ
rule_text rule = word_of (verb_of rule)

abbrev pub cause_text : Cause → List ℕ
cause_text NotDistinct = codes "distinct"
cause_text (Missing rights from to) = decimal from ++ codes "->" ++ decimal to ++ codes " " ++ text_of rights
cause_text NotLog = codes "law"

-- ` V` for each value
abbrev pub value_text : ℕ → List ℕ
value_text value = codes " " ++ decimal value

-- ` NAME:RIGHTS` for each edge
abbrev pub edge_text : ℕ × RightSet → List ℕ
edge_text edge = codes " " ++ decimal edge.0 ++ codes ":" ++ text_of edge.1

abbrev pub denial_text : Denial → List ℕ
denial_text denial = codes "denied " ++ rule_text denial.rule ++ codes " " ++ cause_text denial.cause

abbrev pub reply_text : Reply → List ℕ
reply_text Done = codes "ok"
reply_text (Name name) = codes "ok " ++ decimal name
reply_text (Values values) = codes "ok" ++ flat_map value_text values
reply_text (Edges edges) = codes "ok" ++ flat_map edge_text edges
reply_text (Denied denial) = denial_text denial
reply_text VerticesFull = codes "refused vertices"
reply_text WorkersFull = codes "refused workers"

abbrev pub collected_text : Option ℕ → List ℕ
collected_text (Some count) = codes "ok " ++ decimal count
collected_text None = codes "ok"

abbrev pub refusal_text : Refusal → List ℕ
refusal_text refusal.Memory = codes "refused memory"
refusal_text refusal.Heap = codes "refused heap"
refusal_text refusal.Vertices = codes "refused vertices"
refusal_text refusal.Workers = codes "refused workers"
refusal_text refusal.Worker = codes "refused worker"
refusal_text refusal.Threads = codes "refused threads"
refusal_text refusal.Stock = codes "refused stock"

-- the text, without its line feed
abbrev pub told_text : Answer → List ℕ
told_text (answer.Reply reply) = reply_text reply
told_text (answer.Collected kept) = collected_text kept
told_text (answer.Refused refusal) = refusal_text refusal

-- the text, which a line feed ends
abbrev pub answer_text : Answer → List ℕ
answer_text answer = told_text answer ++ 10 ∷ []
