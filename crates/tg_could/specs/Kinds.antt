-- What the kind of an answer says: as much as the answer, without its turns.
use Rattle.std.specs.Prelude.{◌≡◌, ℕ, List}
use Rattle.tg_rights.specs.declared.Right.{Right}
use Rattle.tg_model.specs.Graph.{ProtectionGraph}
use Rattle.tg_could.specs.declared.answer.Answer.{Answer}
use Rattle.tg_could.specs.declared.answer.AnswerKind.{AnswerKind}
use Rattle.tg_could.specs.declared.answer.AnswerKind.TheVariants.{Never, Could, WantsNames, Open}
use Rattle.tg_could.specs.declared.question.Question.{Question}
use Rattle.tg_could.specs.declared.question.Scene.{Scene}
use Rattle.tg_could.specs.Answered.{HasTurns, IsFar, IsShort, answer_kind}
use Rattle.tg_could.specs.Turns.{CouldHold, NeverHolds, with_names}

-- some turns lead there where so many more vertices may be made
pub record CouldWithNames (silent : List ℕ) (g : ProtectionGraph) (x : ℕ) (right : Right) (y : ℕ) : Type 0 where
  pub names : ℕ
  pub could : CouldHold silent (with_names g names) x right y

-- `Never`: x never holds the right over y, whatever those who act do. `Could`: it does after some turns. `WantsNames`: it does
-- after some turns where more vertices may be made, and names are short. `Open`: so it does where names aren't short; of names
-- that are far it says nothing.
abbrev pub IsKind : List ℕ → ProtectionGraph → ℕ → Right → ℕ → AnswerKind → Type 0
IsKind silent g x right y Never = NeverHolds silent g x right y
IsKind silent g x right y Could = CouldHold silent g x right y
IsKind silent g x right y WantsNames = CouldWithNames silent g x right y × IsShort g x y
IsKind silent g x right y Open = ¬ IsFar g x → ¬ IsFar g y → HasTurns silent g x right y

-- what the kind says of the question is so of the graph
abbrev pub KindOf : Scene → Question → AnswerKind → ProtectionGraph → Type 0
KindOf scene q kind g = IsKind scene.silent.now g q.x q.right q.y kind

-- an answer other than `Never`
abbrev pub IsNotNever : Answer → Type 0
IsNotNever answer = ¬ (answer_kind answer ≡ Never)
