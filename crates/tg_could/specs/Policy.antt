-- Policies: lists of questions about what is never to come about.
use Rattle.std.specs.Prelude.{ℕ, ◌<◌, List, length, slice_index_or, Option, Some, None}
use Rattle.std.specs.List.{All, AllWithin}
use Rattle.tg_model.specs.Graph.{ProtectionGraph}
use Rattle.tg_could.specs.Kinds.{IsNotNever}
use Rattle.tg_could.specs.Scenes.{AnswerOf, NeverOf}
use Rattle.tg_could.specs.declared.policy.Breach.{Breach}
use Rattle.tg_could.specs.declared.question.Question.{Question}
use Rattle.tg_could.specs.declared.question.Scene.{Scene}

-- Nothing that is asked before this place ever comes about. The answer is that to the question at the place, and isn't `Never`.
pub record IsFirstBreach (scene : Scene) (questions : List Question) (breach : Breach) (g : ProtectionGraph) : Type 0 where
  pub before : AllWithin (λ q. NeverOf scene q g) questions 0 breach.place
  pub inside : breach.place < length questions
  pub answer : (d : Question) → AnswerOf scene (slice_index_or questions breach.place d) breach.answer g
  pub more : IsNotNever breach.answer

-- nothing that is asked ever comes about, or this is the first question that isn't answered so
abbrev pub IsKeptOrBroken : Scene → List Question → Option Breach → ProtectionGraph → Type 0
IsKeptOrBroken scene questions None g = All (λ q. NeverOf scene q g) questions
IsKeptOrBroken scene questions (Some breach) g = IsFirstBreach scene questions breach g
