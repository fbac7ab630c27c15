-- What an answer says.
use Rattle.std.specs.Prelude.{◌⊎◌, ℕ, ◌+◌, ◌<◌, Bool, true, false, List, []}
use Rattle.tg_rights.specs.declared.Right.{Right}
use Rattle.tg_model.specs.Graph.{ProtectionGraph, IsSound}
use Rattle.tg_could.specs.declared.answer.Answer.{Answer}
use Rattle.tg_could.specs.declared.answer.Answer.TheVariants.{Never, Could, WantsNames, Open}
use Rattle.tg_could.specs.declared.answer.AnswerKind.{AnswerKind}
use Rattle.tg_could.specs.declared.answer.AnswerKind.TheVariants as kind
use Rattle.tg_could.specs.Turns.{Turn, NeverHolds, LeadThere, CouldHold, MayCome, with_names}

-- y was made, and fewer than 64 names are left; or 64 are, and x is one of them. Of a y that may yet be made names are never
-- short, since whoever makes it holds the right.
abbrev pub IsShort : ProtectionGraph → ℕ → ℕ → Type 0
IsShort g x y = (y < g.made) × ((g.limit < g.made + 64) ⊎ (MayCome g x × (g.limit < g.made + 65)))

-- Some turns lead there where names aren't short, on this graph and where so many more vertices may be made.
pub record HasTurns (silent : List ℕ) (g : ProtectionGraph) (x : ℕ) (right : Right) (y : ℕ) : Type 0 where
  pub enough : IsSound g → ¬ IsShort g x y → CouldHold silent g x right y
  pub with_more : IsSound g → (names : ℕ) → ¬ IsShort (with_names g names) x y → CouldHold silent (with_names g names) x right y

-- a name that isn't made yet and over 65,536 others come before
abbrev pub IsFar : ProtectionGraph → ℕ → Type 0
IsFar g v = MayCome g v × (g.made + 65536 < v)

-- `Never`: x never holds the right over y, whatever those who act do. `Could`: it does after these turns. `WantsNames`: it does
-- after them where so many more vertices may be made, and names are short. `Open`: so it does after some turns, which aren't
-- reported, where names aren't short; of names that are far it says nothing.
abbrev pub IsAnswer : List ℕ → ProtectionGraph → ℕ → Right → ℕ → Answer → Type 0
IsAnswer silent g x right y (Never separation) = NeverHolds silent g x right y
IsAnswer silent g x right y (Could turns) = LeadThere silent g turns.items x right y
IsAnswer silent g x right y (WantsNames turns names) = LeadThere silent (with_names g names) turns.items x right y × IsShort g x y
IsAnswer silent g x right y Open = ¬ IsFar g x → ¬ IsFar g y → HasTurns silent g x right y

-- whether it could come about
abbrev pub IsDecided : List ℕ → ProtectionGraph → ℕ → Right → ℕ → Bool → Type 0
IsDecided silent g x right y true = HasTurns silent g x right y
IsDecided silent g x right y false = NeverHolds silent g x right y

-- the turns of an answer
abbrev pub turns_of : Answer → List Turn
turns_of (Never separation) = []
turns_of (Could turns) = turns.items
turns_of (WantsNames turns names) = turns.items
turns_of Open = []

-- the kind of an answer
abbrev pub answer_kind : Answer → AnswerKind
answer_kind (Never separation) = kind.Never
answer_kind (Could turns) = kind.Could
answer_kind (WantsNames turns names) = kind.WantsNames
answer_kind Open = kind.Open
