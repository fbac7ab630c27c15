-- What is known of two sets of names while they grow by going over all edges.
use Rattle.std.specs.Prelude.{◌≡◌, ◌⊎◌, ℕ, ◌+◌, ◌<◌, nat_eq, Bool, true, false, List, length, if◌then◌else◌}
use Rattle.std.specs.List.{All, Contains}
use Rattle.std.specs.Set.{is_member}
use Rattle.tg_rights.specs.RightSet.{has}
use Rattle.tg_rights.specs.declared.Right.{Right}
use Rattle.tg_rights.specs.declared.Right.TheVariants.{T, G}
use Rattle.tg_model.specs.declared.edge.Edge.{Edge}
use Rattle.tg_model.specs.Graph.{ProtectionGraph}
use Rattle.tg_model.specs.Picture.{Shown, AreAmong}
use Rattle.tg_could.specs.Separation.{Sides, KeepsSides, ComesLater}
use Rattle.tg_could.specs.Led.{Way, Led, IsBrought}
use Rattle.tg_could.specs.Led.Way.{back, forward}
use Rattle.tg_could.specs.Scenes.{OnGraphs}
use Rattle.tg_could.specs.Turns.{IsSilent}
use Rattle.tg_could.specs.declared.separation.led.LedNames.{LedNames}
use Rattle.tg_could.specs.declared.question.Scene.{Scene}

-- whoever is in one of the two sets is led to
pub record AreLed (silent : ℕ → Type 0) (right : Right) (y : ℕ) (g : ProtectionGraph) (s : Sides) : Type 0 where
  pub on : (v : ℕ) → s.forward v ≡ true → Led silent right y g forward v
  pub behind : (v : ℕ) → s.back v ≡ true → Led silent right y g back v

-- the way of a set
abbrev pub way_of : Bool → Way
way_of is_forward = if is_forward then forward else back

abbrev pub sides_led : LedNames → Sides
sides_led names = record { forward = is_member nat_eq names.forward.keys; back = is_member nat_eq names.back.keys }

-- how many there are in the two sets
abbrev pub number_led : LedNames → ℕ
number_led names = length names.forward.keys + length names.back.keys

-- where an edge leads to, from vertices in the two sets: whether forward, and to which vertex
pub data LeadsOn (s : Sides) (right : Right) (y : ℕ) (edge : Edge) : Bool → ℕ → Type 0 where
  from_source : has edge.label right ≡ true → edge.to ≡ y → LeadsOn s right y edge false edge.from
  takes_back : has edge.label T ≡ true → s.back edge.to ≡ true → LeadsOn s right y edge false edge.from
  grants_back : has edge.label G ≡ true → s.forward edge.to ≡ true → LeadsOn s right y edge false edge.from
  takes_on : has edge.label T ≡ true → s.forward edge.from ≡ true → LeadsOn s right y edge true edge.to
  grants_on : has edge.label G ≡ true → s.forward edge.from ≡ true → LeadsOn s right y edge false edge.to

-- a vertex is in the set of a way
abbrev pub is_on_side : Sides → Bool → ℕ → Bool
is_on_side s is_forward v = if is_forward then s.forward v else s.back v

-- one more was put there, and the sets are as they were in all else
pub record IsPut (s : Sides) (is_forward : Bool) (name : ℕ) (new : Sides) : Type 0 where
  pub on : (v : ℕ) → new.forward v ≡ true → (s.forward v ≡ true) ⊎ ((is_forward ≡ true) × (v ≡ name))
  pub behind : (v : ℕ) → new.back v ≡ true → (s.back v ≡ true) ⊎ ((is_forward ≡ false) × (v ≡ name))

-- where one who acts turns: from one set into the other, or into the second where y may yet be made
pub data TurnsTo (s : Sides) (p : Shown) (y : ℕ) : Bool → ℕ → Type 0 where
  from_back : {v : ℕ} → s.back v ≡ true → TurnsTo s p y true v
  from_forward : {v : ℕ} → s.forward v ≡ true → TurnsTo s p y false v
  from_later : {v : ℕ} → ComesLater p y → TurnsTo s p y false v

-- one who acts turns nowhere else
pub record IsTurned (s : Sides) (p : Shown) (y : ℕ) (v : ℕ) : Type 0 where
  pub alike : s.forward v ≡ s.back v
  pub makes : ComesLater p y → s.back v ≡ true

-- someone who acts on a picture
abbrev pub ActsIn : List ℕ → Shown → ℕ → Type 0
ActsIn silent p v = Contains p.subjects v × ¬ (Contains silent v × (v < p.made))

abbrev pub ActsOn : Scene → ℕ → Type 0
ActsOn scene v = ActsIn scene.silent.now scene.picture.now v

-- ---- what one pass over the edges and the subjects comes to

-- If whoever is in the old sets is led to, whoever is in the new ones is, too.
abbrev pub StaysLed : Scene → Right → ℕ → Sides → Sides → Type 0
StaysLed scene right y old new =
    OnGraphs scene (λ g. AreLed (IsSilent scene.silent.now g) right y g old → AreLed (IsSilent scene.silent.now g) right y g new)

-- This is so of each graph that has these edges, whoever is silent.
abbrev pub StaysLedAlong : List Edge → Right → ℕ → Sides → Sides → Type 0
StaysLedAlong edges right y old new = (silent : List ℕ) (g : ProtectionGraph) → AreAmong edges g.label →
    AreLed (IsSilent silent g) right y g old → AreLed (IsSilent silent g) right y g new

-- each of these edges leads out of neither set
abbrev pub KeepsEach : Sides → Right → ℕ → List Edge → Type 0
KeepsEach s right y edges = All (λ e. KeepsSides s right y (λ a b. e.label) e.from e.to) edges

-- whoever acts turns nowhere else
abbrev pub AreTurned : Scene → Sides → ℕ → Type 0
AreTurned scene s y = (v : ℕ) → ActsOn scene v → IsTurned s scene.picture.now y v

-- ---- to whom the sets lead the right

-- a vertex is x, or may make x
abbrev pub IsOrMakes : Scene → ℕ → ℕ → Type 0
IsOrMakes scene x v = (v ≡ x) ⊎ ComesLater scene.picture.now x

-- nobody who acts and is in the second set is x, or may make x
abbrev pub NobodyGets : Scene → Sides → ℕ → Type 0
NobodyGets scene s x = (v : ℕ) → ActsOn scene v → IsOrMakes scene x v → s.back v ≡ false

-- If whoever is in the sets is led to, the right is led to x.
abbrev pub BringsTo : Scene → Sides → ℕ → Type 0
BringsTo scene s x = (right : Right) (y : ℕ) →
    OnGraphs scene (λ g. AreLed (IsSilent scene.silent.now g) right y g s → IsBrought (IsSilent scene.silent.now g) right y g x)
