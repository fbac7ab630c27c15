-- What is reported at once of everybody, or of everything.
use Rattle.std.specs.Prelude.{◌≡◌, ◌≢◌, ℕ, ◌<◌, ◌≤◌, Bool, true, List}
use Rattle.tg_rights.specs.RightSet.{has}
use Rattle.tg_rights.specs.declared.Right.{Right}
use Rattle.tg_rights.specs.declared.Right.TheVariants.{G}
use Rattle.tg_model.specs.declared.edge.Edge.{Edge}
use Rattle.tg_model.specs.Graph.{ProtectionGraph}
use Rattle.tg_model.specs.Picture.{Shown, IsPictureOf}
use Rattle.tg_could.specs.Turns.{NeverHolds}
use Rattle.tg_could.specs.Scenes.{OnGraphs}
use Rattle.tg_could.specs.declared.question.Scene.{Scene}
use Rattle.tg_could.specs.Separation.{Sides, Walks, ComesLater, sides_of}
use Rattle.tg_could.specs.declared.who.Who.{Who}
use Rattle.tg_could.specs.declared.who.Candidates.{Candidates}

-- a name is reported
abbrev pub is_told : Candidates → ℕ → Bool
is_told told x = (sides_of told.marks).back x

abbrev pub IsToldName : Candidates → ℕ → Type 0
IsToldName told x = is_told told x ≡ true

-- x was made and isn't reported; or it may yet be made and isn't y, and such names aren't reported
pub record IsUntold (told : Candidates) (y made limit x : ℕ) : Type 0 where
  pub unmarked : x < made → ¬ IsToldName told x
  pub not_later : made ≤ x → x < limit → x ≢ y → ¬ (told.later ≡ true)

-- x isn't reported, and whoever isn't was shown never to hold the right
pub record IsLeftOut (who : Who) (x : ℕ) : Type 0 where
  pub shown : who.is_shown ≡ true
  pub untold : IsUntold who.told who.over who.made who.limit x

-- What is reported of a picture: of names from those that were made on all is reported alike, and whoever is left out never holds
-- the right.
pub record TellsWho (silent : List ℕ) (p : Shown) (right : Right) (y : ℕ) (who : Who) : Type 0 where
  pub made : who.made ≡ p.made
  pub never : (g : ProtectionGraph) → IsPictureOf p g → (x : ℕ) → IsLeftOut who x → NeverHolds silent g x right y

-- ---- what is checked

-- who holds the right over y by this edge is reported
abbrev pub TellsHolder : Candidates → Right → ℕ → Edge → Type 0
TellsHolder told right y edge = edge.to ≡ y → has edge.label right ≡ true → IsToldName told edge.from

-- the edge leads out of neither set, and who may be granted the right by it is reported
pub record TellsOf (s : Sides) (told : Candidates) (right : Right) (y : ℕ) (edge : Edge) : Type 0 where
  pub walks : Walks s edge
  pub held : has edge.label right ≡ true → edge.to ≡ y → s.back edge.from ≡ true
  pub given : has edge.label G ≡ true → s.forward edge.from ≡ true → edge.to ≢ y → IsToldName told edge.to

-- one who acts is in both sets or in none, and is told where it is in them
pub record TellsActor (s : Sides) (told : Candidates) (shown : Shown) (y : ℕ) (p : ℕ) : Type 0 where
  pub alike : s.forward p ≡ s.back p
  pub told_itself : s.back p ≡ true → p ≢ y → IsToldName told p
  pub later : s.back p ≡ true → told.later ≡ true
  pub y_may_come : ComesLater shown y → s.back p ≡ true

-- whoever isn't told never holds the right
abbrev pub NeverUntold : Scene → Right → ℕ → Candidates → Type 0
NeverUntold scene right y told = OnGraphs scene
    (λ g. (x : ℕ) → IsUntold told y scene.picture.now.made scene.picture.now.limit x → NeverHolds scene.silent.now g x right y)
