-- What is said of a question on a scene: of each graph of which the scene has the picture.
use Rattle.std.specs.Prelude.{ℕ, ◌<◌}
use Rattle.std.specs.List.{All, Contains}
use Rattle.tg_model.specs.Graph.{ProtectionGraph, without_subject}
use Rattle.tg_model.specs.Picture.{IsPictureOf}
use Rattle.tg_could.specs.Turns.{NeverHolds, LeadThere, with_names}
use Rattle.tg_could.specs.Answered.{IsAnswer}
use Rattle.tg_could.specs.declared.answer.Answer.{Answer}
use Rattle.tg_could.specs.declared.question.Question.{Question}
use Rattle.tg_could.specs.declared.question.Scene.{Scene}
use Rattle.tg_could.specs.declared.question.Witness.{Witness}

-- it holds of each graph of which the scene has the picture
abbrev pub OnGraphs : Scene → (ProtectionGraph → Type 0) → Type 0
OnGraphs scene holds = (g : ProtectionGraph) → IsPictureOf scene.picture.now g → holds g

-- what the answer says is so of the graph
abbrev pub AnswerOf : Scene → Question → Answer → ProtectionGraph → Type 0
AnswerOf scene q answer g = IsAnswer scene.silent.now g q.x q.right q.y answer

-- x never holds the right over y on the graph
abbrev pub NeverOf : Scene → Question → ProtectionGraph → Type 0
NeverOf scene q g = NeverHolds scene.silent.now g q.x q.right q.y

-- nor does it if one of the silent ones acts
abbrev pub NeverWithout : Scene → Question → ℕ → ProtectionGraph → Type 0
NeverWithout scene q host g = NeverHolds (without_subject scene.silent.now host) g q.x q.right q.y

-- the turns lead there where as many more vertices may be made as the witness says
abbrev pub WitnessOf : Scene → Question → Witness → ProtectionGraph → Type 0
WitnessOf scene q witness g = LeadThere scene.silent.now (with_names g witness.names) witness.turns.now q.x q.right q.y

-- the name isn't that of a silent one
abbrev pub TakesTurns : Scene → ℕ → Type 0
TakesTurns scene v = ¬ (Contains scene.silent.now v × (v < scene.picture.now.made))

-- it holds of each active subject that isn't silent
abbrev pub EachActor : Scene → (ℕ → Type 0) → Type 0
EachActor scene holds = All (λ v. TakesTurns scene v → holds v) scene.picture.now.subjects
