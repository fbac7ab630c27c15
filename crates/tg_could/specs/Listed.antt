-- What is reported at once of all that someone could ever come to hold.
use Rattle.std.specs.Prelude.{◌≡◌, ◌≢◌, ℕ, ◌<◌, ◌≤◌, true, false, List, length, slice_index_or, Some}
use Rattle.std.specs.List.{All, Contains}
use Rattle.tg_rights.specs.RightSet.{RightSet, has, no_rights, holds_all}
use Rattle.tg_rights.specs.declared.Right.{Right}
use Rattle.tg_rights.specs.declared.Right.TheVariants.{G}
use Rattle.tg_model.specs.declared.edge.Edge.{Edge}
use Rattle.tg_model.specs.declared.opening.TheConstants.{MAX_WORKERS}
use Rattle.tg_model.specs.Graph.{ProtectionGraph}
use Rattle.tg_model.specs.Picture.{Shown, IsPictureOf}
use Rattle.tg_could.specs.Turns.{NeverHolds}
use Rattle.tg_could.specs.Scenes.{OnGraphs}
use Rattle.tg_could.specs.declared.question.Scene.{Scene}
use Rattle.tg_could.specs.Names.{number_in}
use Rattle.tg_could.specs.Separation.{Sides, Walks, ComesLater}
use Rattle.tg_could.specs.declared.what.What.{What}
use Rattle.tg_could.specs.declared.what.Listed.{Listed}

-- the rights over a name that are reported
abbrev pub rights_over : Listed → ℕ → RightSet
rights_over listed name = slice_index_or listed.rights.items (number_in listed.names name) no_rights

-- y was made and the right over it isn't reported; or y may yet be made and isn't x, and rights over such names aren't
-- reported
pub record IsUnlisted (listed : Listed) (x made limit : ℕ) (right : Right) (y : ℕ) : Type 0 where
  pub unlisted : y < made → ¬ (has (rights_over listed y) right ≡ true)
  pub not_later : made ≤ y → y < limit → y ≢ x → ¬ (listed.later ≡ true)

-- the right over y isn't reported, and what isn't was shown never to be held
pub record IsLeftOut (what : What) (right : Right) (y : ℕ) : Type 0 where
  pub shown : what.is_shown ≡ true
  pub untold : IsUnlisted what.listed what.holder what.made what.limit right y

-- What is reported of a picture: of names from those that were made on all is reported alike, and a right that is left out is
-- never held.
pub record TellsWhat (silent : List ℕ) (p : Shown) (x : ℕ) (what : What) : Type 0 where
  pub made : what.made ≡ p.made
  pub never : (g : ProtectionGraph) → IsPictureOf p g → (right : Right) (y : ℕ) → IsLeftOut what right y → NeverHolds silent g x right y

-- ---- what is checked

-- as many subjects as may be are active, and v is the only one of them who acts
abbrev pub IsOnlyActor : List ℕ → Shown → ℕ → Type 0
IsOnlyActor silent p v = (MAX_WORKERS ≤ length p.subjects) × All (λ u. ¬ (Contains silent u × (u < p.made)) → u ≡ v) p.subjects

-- The edge leads out of neither set. What x holds by it is reported, and what x may get of it, but for rights over the only one who
-- acts. Nobody grants to x who may hold what isn't reported.
pub record ListsEdge (s : Sides) (listed : Listed) (x : ℕ) (edge : Edge) : Type 0 where
  pub walks : Walks s edge
  pub held : edge.from ≡ x → holds_all (rights_over listed edge.to) edge.label ≡ true
  pub got : edge.to ≢ x → ¬ (listed.alone ≡ Some edge.to) → s.back edge.from ≡ false → holds_all (rights_over listed edge.to) edge.label ≡ true
  pub not_given : edge.to ≡ x → has edge.label G ≡ true → ¬ (s.forward edge.from ≡ true)

-- one who acts is in both sets or in none, and in none where x is it or may be made by it, or else names that aren't made yet are
-- reported
pub record ListsActor (s : Sides) (listed : Listed) (shown : Shown) (x : ℕ) (p : ℕ) : Type 0 where
  pub alike : s.forward p ≡ s.back p
  pub not_x : p ≡ x → ¬ (s.back p ≡ true)
  pub later : s.back p ≡ false → listed.later ≡ true
  pub x_may_come : ComesLater shown x → ¬ (s.back p ≡ true)

-- x never holds what isn't reported
abbrev pub NeverUnlisted : Scene → ℕ → Listed → Type 0
NeverUnlisted scene x listed = OnGraphs scene
    (λ g. (right : Right) (y : ℕ) → IsUnlisted listed x scene.picture.now.made scene.picture.now.limit right y → NeverHolds scene.silent.now g x right y)
