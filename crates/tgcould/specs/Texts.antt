-- The texts of answers: a word, and after `could` the lines of a script that do it.
use Rattle.std.specs.Prelude.{ℕ, ◌==◌, List, [], ◌∷◌, ◌++◌, codes, decimal, length, if◌then◌else◌}
use Rattle.std.specs.List.{flat_map}
use Rattle.tg_could.specs.declared.answer.Answer.{Answer}
use Rattle.tg_could.specs.declared.answer.Answer.TheVariants.{Never, Could, WantsNames, Open}
use Rattle.tg_could.specs.Turns.{Turn}
use Rattle.tg_text.specs.Deeds.{deed_line}
use Rattle.tg_text.specs.Grammar.{line_text}

-- a turn as a line of a script, with its line feed
abbrev pub turn_text : Turn → List ℕ
turn_text turn = line_text (deed_line turn.0 turn.1) ++ 10 ∷ []

-- the words after the number of names that are lacking
abbrev pub more_names_text : ℕ → List ℕ
more_names_text names = if names == 1 then codes " name more\n" else codes " names more\n"

-- how many names are lacking
abbrev pub wanting_text : ℕ → List ℕ
wanting_text names = codes "could, with " ++ (decimal names ++ more_names_text names)

-- the turns by which the right comes about, or none if it is held already
abbrev pub could_text : List Turn → List ℕ
could_text turns = if length turns == 0 then codes "now\n" else codes "could\n" ++ flat_map turn_text turns

abbrev pub chance_text : Answer → List ℕ
chance_text (Never separation) = codes "never\n"
chance_text (Could turns) = could_text turns.items
chance_text (WantsNames turns names) = wanting_text names ++ flat_map turn_text turns.items
chance_text Open = codes "open\n"
