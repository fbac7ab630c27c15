-- The text of what a vertex stores. Numbers are decimal without leading zeros.
use Rattle.std.specs.Prelude.{ℕ, List, [], ◌∷◌, ◌++◌, codes, decimal}
use Rattle.std.specs.List.{flat_map}
use Rattle.tg_model.specs.declared.law.Law.{Law}
use Rattle.tg_model.specs.declared.law.Law.TheVariants.{Cell, Sum, Max, Log}

-- `,N` for each number
abbrev pub more_text : ℕ → List ℕ
more_text number = 44 ∷ decimal number

-- numbers with a comma between two
abbrev pub numbers_text : List ℕ → List ℕ
numbers_text [] = []
numbers_text (number ∷ numbers) = decimal number ++ flat_map more_text numbers

-- the numbers of a log, after a colon where it has any
abbrev pub logged_text : List ℕ → List ℕ
logged_text [] = []
logged_text (number ∷ numbers) = codes ":" ++ numbers_text (number ∷ numbers)

-- the letter of a law and the numbers: `c0`, `s5`, `m7`, a log of four as `l4` or `l4:1,2`
abbrev pub payload_text : Law → List ℕ → List ℕ
payload_text Cell state = codes "c" ++ numbers_text state
payload_text Sum state = codes "s" ++ numbers_text state
payload_text Max state = codes "m" ++ numbers_text state
payload_text (Log most) state = (codes "l" ++ decimal most) ++ logged_text state
