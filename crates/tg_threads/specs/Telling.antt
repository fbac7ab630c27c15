-- The text that is written of the results of the lines, with the entries of the journal.
use Rattle.std.specs.Prelude.{ℕ, ◌<◌, ◌≤◌, List, [], ◌∷◌, ◌++◌, length, Option, Some, None, slice_get, codes, decimal}
use Rattle.std.specs.List.{flat_map}
use Rattle.tg_journal.specs.declared.entry.Entry.{Entry}
use Rattle.tg_text.specs.declared.answer.Answer.{Answer}
use Rattle.tg_text.specs.declared.answer.Answer.TheVariants as answer
use Rattle.tg_text.specs.declared.answer.Refusal.TheVariants as refusal
use Rattle.tg_text.specs.Texts.{answer_text}
use Rattle.tg_threads.specs.declared.task.Told.{Told}
use Rattle.tg_threads.specs.declared.task.Told.TheVariants as came

abbrev pub entry_answer : Option Entry → Answer
entry_answer (Some e) = answer.Reply e.reply
entry_answer None = answer.Refused refusal.Memory

abbrev pub told_answer : List Entry → Told → Answer
told_answer entries (came.Entered at) = entry_answer (slice_get entries at)
told_answer entries (came.Collected kept) = answer.Collected kept
told_answer entries (came.Refused r) = answer.Refused r

-- the place of an entry in a result is the place of an entry of the journal, from its first place on
abbrev pub IsThere : ℕ → List Entry → Told → Type 0
IsThere first entries (came.Entered at) = (first ≤ at) × (at < length entries)
IsThere first entries (came.Collected kept) = Unit {0}
IsThere first entries (came.Refused r) = Unit {0}

abbrev pub text_of_told : List Entry → List Told → List ℕ
text_of_told entries ts = flat_map (λ t. answer_text (told_answer entries t)) ts

-- the last line
abbrev pub end_text : ℕ → List ℕ
end_text count = codes "entries " ++ decimal count ++ codes " audit ok" ++ 10 ∷ []
