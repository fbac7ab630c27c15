-- What is noted of a line that was denied or refused.
use Rattle.std.specs.Prelude.{List, [], ◌∷◌, if◌then◌else◌}
use Rattle.tg_text.specs.declared.answer.Answer.{Answer}
use Rattle.tg_text.specs.Refusing.{says_refusal}
use Rattle.tg_plain.specs.declared.refused.RefusedLine.{RefusedLine}
use Rattle.tg_plain.specs.declared.script.ScriptLine.{ScriptLine}

-- a line with its number and its answer, if this says that it was denied or refused
abbrev pub noted : ScriptLine → Answer → List RefusedLine
noted l a = if says_refusal a then record { number = l.number; line = l.line; answer = a } ∷ [] else []
