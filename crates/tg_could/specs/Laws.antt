-- What the laws of this crate say: words that no other contract needs.
use Rattle.std.specs.Prelude.{◌≡◌, ◌≢◌, ◌<◌, ℕ, List, [], ◌∷◌, Bool, true}
use Rattle.std.specs.List.{Contains}
use Rattle.tg_rights.specs.RightSet.{RightSet}
use Rattle.tg_rights.specs.declared.Right.{Right}
use Rattle.tg_model.specs.Graph.{ProtectionGraph, IsSound}
use Rattle.tg_model.specs.Picture.{IsMade, IsPictureOf, Shown, with_edge}
use Rattle.tg_model.specs.declared.edge.Edge.{Edge}
use Rattle.tg_could.specs.View.{shown_with}
use Rattle.tg_could.specs.Turns.{IsSilent, NeverHolds, StaysNever, MayGrant, granted}
use Rattle.tg_could.specs.Answered.{IsShort}
use Rattle.tg_could.specs.Separation.{Sides, Separates, IsConfined, NoneHolds}
use Rattle.tg_could.specs.Led.{IsBrought, HasHelp}

-- two sets part x from the right over y
abbrev pub IsSeparated : List ℕ → ProtectionGraph → ℕ → Right → ℕ → Type 0
IsSeparated silent g x right y = (s : Sides) × Separates (IsSilent silent g) s x right y g

-- walks lead the right over y to x
abbrev pub IsBroughtTo : List ℕ → ProtectionGraph → ℕ → Right → ℕ → Type 0
IsBroughtTo silent g x right y = IsBrought (IsSilent silent g) right y g x

-- the graph has the names and the helpers that the turns after such walks take
pub record HasMeans (silent : List ℕ) (g : ProtectionGraph) (x y : ℕ) : Type 0 where
  pub sound : IsSound g
  pub long : ¬ IsShort g x y
  pub differ : x ≢ y
  pub help : HasHelp (IsSilent silent g) g y

-- no take or grant edge leaves or enters the set, y was made, and none of the set holds the right over it
pub record IsConfinedWithout (inside : ℕ → Bool) (g : ProtectionGraph) (right : Right) (y : ℕ) : Type 0 where
  pub made : IsMade g
  pub confined : IsConfined inside g
  pub target : y < g.made
  pub none : NoneHolds inside g right y

-- none that was made and is of the set ever holds the right over y
abbrev pub NoneEverHolds : (ℕ → Bool) → List ℕ → ProtectionGraph → Right → ℕ → Type 0
NoneEverHolds inside silent g right y = (x : ℕ) → x < g.made → inside x ≡ true → NeverHolds silent g x right y

-- a grant of a silent host brings about nothing that could not come about with the new edge
abbrev pub IsForeseenByEdge : List ℕ → ProtectionGraph → ℕ → ℕ → ℕ → RightSet → Type 0
IsForeseenByEdge silent g host via target rights =
    Contains silent host → MayGrant g host via target rights → StaysNever silent (with_edge g via target rights) (granted g host via target rights)

-- the edge by which one vertex has these rights over another
abbrev pub edge_with : ℕ → ℕ → RightSet → Edge
edge_with from to rights = record { from = from; to = to; label = rights }

-- after a host grants rights over the target to the other vertex, the picture with this edge is one of the graph
abbrev pub IsShownByEdge : Shown → ProtectionGraph → ℕ → ℕ → ℕ → RightSet → Type 0
IsShownByEdge p g host via target rights = IsPictureOf p g → MayGrant g host via target rights →
    IsPictureOf (shown_with p (edge_with via target rights ∷ [])) (granted g host via target rights)
