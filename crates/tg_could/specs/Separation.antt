-- Why x never holds a right over y: a separation. This is the theorem of Lipton and Snyder ("A linear time algorithm for
-- deciding subject security", Journal of the ACM, 1977) seen from outside: islands, bridges and spans join what no
-- separation can part.
use Rattle.std.specs.Prelude.{◌≡◌, ℕ, ◌*◌, ◌<◌, ◌≤◌, ◌==◌, ◌/◌, ◌%◌, ◌^◌, Bool, true, not, List, bit_and, slice_index_or}
use Rattle.tg_rights.specs.RightSet.{RightSet, has}
use Rattle.tg_rights.specs.declared.Right.{Right}
use Rattle.tg_rights.specs.declared.Right.TheVariants.{T, G}
use Rattle.tg_model.specs.Graph.{ProtectionGraph}
use Rattle.tg_model.specs.declared.edge.Edge.{Edge}
use Rattle.tg_model.specs.Picture.{Holds, Shown}
use Rattle.tg_could.specs.Turns.{Acts, MayCome}
use Rattle.tg_could.specs.Names.{number_in}
use Rattle.tg_could.specs.declared.separation.Separation.{Separation}
use Rattle.tg_could.specs.declared.separation.Membership.{Membership}

-- Two sets of vertices. `back` has each vertex from which a walk of take edges leads to one who may come to hold the
-- right; `forward` each vertex to which one leads from one who acts and may.
pub record Sides : Type 0 where
  pub forward : ℕ → Bool
  pub back : ℕ → Bool

-- an edge from a to b with these rights leads out of neither set, where the right is over y
pub record KeepsSides (s : Sides) (right : Right) (y : ℕ) (label : ℕ → ℕ → RightSet) (a b : ℕ) : Type 0 where
  pub take_on : Holds label a T b → s.forward a ≡ true → s.forward b ≡ true
  pub take_back : Holds label a T b → s.back b ≡ true → s.back a ≡ true
  pub grant_on : Holds label a G b → s.forward a ≡ true → s.back b ≡ true
  pub grant_back : Holds label a G b → s.forward b ≡ true → s.back a ≡ true
  pub source : Holds label a right b → b ≡ y → s.back a ≡ true

-- rights that may be added from p to q: the edge leads out of neither set, and x is neither its holder nor its gift
pub record MayAdd (s : Sides) (x : ℕ) (right : Right) (y : ℕ) (p q : ℕ) (rights : RightSet) : Type 0 where
  pub keeps : KeepsSides s right y (λ a b. rights) p q
  pub not_held : p ≡ x → q ≡ y → ¬ (has rights right ≡ true)
  pub not_granted : q ≡ x → has rights G ≡ true → ¬ (s.forward p ≡ true)

-- the edge has neither take nor grant, nor the right over y
pub record IsIdle (right : Right) (y : ℕ) (edge : Edge) : Type 0 where
  pub no_take : ¬ (has edge.label T ≡ true)
  pub no_grant : ¬ (has edge.label G ≡ true)
  pub no_right : edge.to ≡ y → ¬ (has edge.label right ≡ true)

-- no edge leads out of the two sets, x doesn't hold the right, and nobody who may hold it can grant to x
pub record Parts (s : Sides) (x : ℕ) (right : Right) (y : ℕ) (label : ℕ → ℕ → RightSet) : Type 0 where
  pub edges : (a b : ℕ) → KeepsSides s right y label a b
  pub without : ¬ Holds label x right y
  pub not_given : (a : ℕ) → Holds label a G x → ¬ (s.forward a ≡ true)

-- The two sets part x from the right over y: who acts is in both or in none, and x isn't one who acts and is in them. Where y
-- may yet be made, each who acts is in them, since that one may make it; where x may, none is, since x may be made by that one.
pub record Separates (silent : ℕ → Type 0) (s : Sides) (x : ℕ) (right : Right) (y : ℕ) (g : ProtectionGraph) : Type 0 where
  pub labels : Parts s x right y g.label
  pub alike : (p : ℕ) → Acts silent g p → s.forward p ≡ s.back p
  pub not_taken : Acts silent g x → ¬ (s.back x ≡ true)
  pub y_may_come : MayCome g y → (p : ℕ) → Acts silent g p → s.back p ≡ true
  pub x_may_come : MayCome g x → (p : ℕ) → Acts silent g p → ¬ (s.back p ≡ true)

-- ---- as marks

-- the two bits of a number, with those of the numbers after it above them
unfoldable pub pair_in : List ℕ → ℕ → ℕ
pair_in words number = slice_index_or words (number / 32) 0 / 2 ^ (number % 32 * 2)

-- the upper of the two is set
unfoldable pub is_first : ℕ → Bool
is_first pair = bit_and (pair / 2) 1 == 1

-- the lower one is
unfoldable pub is_second : ℕ → Bool
is_second pair = bit_and pair 1 == 1

-- the sides that the two bits of each name represent
abbrev pub sides_of : Separation → Sides
sides_of m = record {
  forward = λ v. is_first (pair_in m.pairs.words.items (number_in m.names v));
  back = λ v. is_second (pair_in m.pairs.words.items (number_in m.names v));
}

-- the sides that they represent where a search went back from x: whom it didn't reach
abbrev pub sides_against : Separation → Sides
sides_against m = record {
  forward = λ v. not (is_second (pair_in m.pairs.words.items (number_in m.names v)));
  back = λ v. not (is_first (pair_in m.pairs.words.items (number_in m.names v)));
}

-- take and grant lead out of neither set, between vertices in these
pub record Stays (label : RightSet) (from to : Membership) : Type 0 where
  pub take_on : has label T ≡ true → from.forward ≡ true → to.forward ≡ true
  pub take_back : has label T ≡ true → to.back ≡ true → from.back ≡ true
  pub grant_on : has label G ≡ true → from.forward ≡ true → to.back ≡ true
  pub grant_back : has label G ≡ true → to.forward ≡ true → from.back ≡ true

-- neither of two vertices is in a set
pub record SidesAreApart (from to : Membership) : Type 0 where
  pub from_forward : ¬ (from.forward ≡ true)
  pub from_back : ¬ (from.back ≡ true)
  pub to_forward : ¬ (to.forward ≡ true)
  pub to_back : ¬ (to.back ≡ true)

-- the edge leads out of neither set, between vertices in these, and x is neither its holder nor its gift
pub record Suits (from to : Membership) (x : ℕ) (right : Right) (y : ℕ) (edge : Edge) : Type 0 where
  pub stays : Stays edge.label from to
  pub source : has edge.label right ≡ true → edge.to ≡ y → from.back ≡ true
  pub not_held : edge.from ≡ x → edge.to ≡ y → ¬ (has edge.label right ≡ true)
  pub not_granted : edge.to ≡ x → has edge.label G ≡ true → ¬ (from.forward ≡ true)

-- where a vertex is
abbrev pub place_in : Sides → ℕ → Membership
place_in s v = record { forward = s.forward v; back = s.back v }

-- take and grant lead out of neither set along this edge
abbrev pub Walks : Sides → Edge → Type 0
Walks s edge = Stays edge.label (place_in s edge.from) (place_in s edge.to)

-- a name that isn't made yet on a picture and may be made
abbrev pub ComesLater : Shown → ℕ → Type 0
ComesLater p x = (p.made ≤ x) × (x < p.limit)

-- one who acts is as a separation asks
pub record IsEven (s : Sides) (shown : Shown) (x y : ℕ) (p : ℕ) : Type 0 where
  pub alike : s.forward p ≡ s.back p
  pub not_x : p ≡ x → ¬ (s.back p ≡ true)
  pub y_may_come : ComesLater shown y → s.back p ≡ true
  pub x_may_come : ComesLater shown x → ¬ (s.back p ≡ true)

-- ---- confinement

-- no take or grant edge leaves or enters the set
pub record IsConfined (inside : ℕ → Bool) (g : ProtectionGraph) : Type 0 where
  pub take : (a b : ℕ) → Holds g.label a T b → inside a ≡ inside b
  pub grant : (a b : ℕ) → Holds g.label a G b → inside a ≡ inside b

-- nobody in the set holds the right over y
abbrev pub NoneHolds : (ℕ → Bool) → ProtectionGraph → Right → ℕ → Type 0
NoneHolds inside g right y = (a : ℕ) → inside a ≡ true → ¬ Holds g.label a right y
