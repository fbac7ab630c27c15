-- Lists that rise: of each element and the one before it, and as a whole.
use Rattle.std.proofs.Common.{◌≡◌, ◌≢◌, ◌<◌, ◌≤◌, ◌==◌, ◌+◌, ◌++◌, ◌∷◌, [], ℕ, zero, suc, Bool, true, false, cond, List, take, Option, Some, None, refl, ap, ◌∙◌, arith}
use Rattle.std.specs.Prelude.{EachIndex}
use Rattle.std.proofs.lemmas.Bool.{eqb-true, eq-eqb, ne_eqb, cond-true, cond-false}
use Rattle.tg_model.specs.declared.edge.Edge.{Edge}
use Rattle.tg_model.specs.declared.value.Value.{Value}
use Rattle.tg_snapshot.specs.declared.vertex.ShownVertex.{ShownVertex}
use Rattle.tg_snapshot.specs.Snapshot.{ComesAfter, NamePrecedes, EdgePrecedes, value_shown}

-- what holds of each element and the one before it holds in the rest of the list
tail_after : {X : Type 0} (precedes : X → X → Type 0) (x : X) (xs : List X) → EachIndex (x ∷ xs) (ComesAfter precedes (x ∷ xs)) → EachIndex xs (ComesAfter precedes xs)
tail_after precedes x xs each at inside k d next = each (suc at) (omega (arith, inside)) (suc k) d (omega (arith, next))

-- ---- vertices

-- the names rise, from this one on at the least
abbrev pub RiseFrom : ℕ → List ShownVertex → Type 0
RiseFrom n [] = Unit {0}
RiseFrom n (v ∷ vs) = (n ≤ v.name) × RiseFrom (v.name + 1) vs

rise_behind : (v : ShownVertex) (vs : List ShownVertex) → EachIndex (v ∷ vs) (ComesAfter NamePrecedes (v ∷ vs)) → RiseFrom (v.name + 1) vs
rise_behind v [] each = tt
rise_behind v (w ∷ vs) each =
    let less : v.name < w.name = each 1 (omega arith) 0 v refl in
    (omega (arith, less), rise_behind w vs (tail_after NamePrecedes v (w ∷ vs) each))

pub rise : (vs : List ShownVertex) → EachIndex vs (ComesAfter NamePrecedes vs) → RiseFrom 0 vs
rise [] each = tt
rise (v ∷ vs) each = (omega arith, rise_behind v vs each)

pub here : (v : ShownVertex) (vs : List ShownVertex) (y : ℕ) → y ≡ v.name → value_shown (v ∷ vs) y ≡ Some v.value
here v vs y same = cond-true (y == v.name) (Some v.value) (value_shown vs y) (eq-eqb y v.name same)

pub elsewhere : (v : ShownVertex) (vs : List ShownVertex) (y : ℕ) → y ≢ v.name → value_shown (v ∷ vs) y ≡ value_shown vs y
elsewhere v vs y other = cond-false (y == v.name) (Some v.value) (value_shown vs y) (ne_eqb y v.name other)

pub unshown_below : (n : ℕ) (vs : List ShownVertex) (y : ℕ) → RiseFrom n vs → y < n → value_shown vs y ≡ None
unshown_below n [] y rising below = refl
unshown_below n (v ∷ vs) y rising below =
    elsewhere v vs y (λ same. omega (arith, same, rising.0, below))
    ∙ unshown_below (v.name + 1) vs y rising.1 (omega (arith, rising.0, below))

-- the vertices before a place
pub RiseFrom-take : (n : ℕ) (vs : List ShownVertex) (k : ℕ) → RiseFrom n vs → RiseFrom n (take k vs)
RiseFrom-take n vs zero rising = tt
RiseFrom-take n [] (suc k) rising = tt
RiseFrom-take n (v ∷ vs) (suc k) rising = (rising.0, RiseFrom-take (v.name + 1) vs k rising.1)

last_low : (n : ℕ) (vs : List ShownVertex) (w : ShownVertex) → RiseFrom n (vs ++ w ∷ []) → n ≤ w.name
last_low n [] w rising = rising.0
last_low n (v ∷ vs) w rising = let rest = last_low (v.name + 1) vs w rising.1 in omega (arith, rest, rising.0)

swapped : {X : Type 0} (b c : Bool) (here there rest : X) → (b ≡ true → c ≡ true → ⊥) → cond b here (cond c there rest) ≡ cond c there (cond b here rest)
swapped true true here there rest apart = absurd (apart refl refl)
swapped true false here there rest apart = refl
swapped false c here there rest apart = refl

-- one vertex more at the end
pub value_shown-push : (n : ℕ) (vs : List ShownVertex) (w : ShownVertex) (y : ℕ) → RiseFrom n (vs ++ w ∷ []) → value_shown (vs ++ w ∷ []) y ≡ cond (y == w.name) (Some w.value) (value_shown vs y)
value_shown-push n [] w y rising = refl
value_shown-push n (v ∷ vs) w y rising =
    let later = last_low (v.name + 1) vs w rising.1 in
    ap (λ (o : Option Value). cond (y == v.name) (Some v.value) o) (value_shown-push (v.name + 1) vs w y rising.1)
    ∙ swapped (y == v.name) (y == w.name) (Some v.value) (Some w.value) (value_shown vs y)
    (λ first second. let one = eqb-true y v.name first in let two = eqb-true y w.name second in omega (arith, one, two, later))

-- ---- edges

-- the edges come after this one, in their order
abbrev pub RiseAfter : Edge → List Edge → Type 0
RiseAfter e [] = Unit {0}
RiseAfter e (f ∷ fs) = EdgePrecedes e f × RiseAfter f fs

abbrev pub Rises : List Edge → Type 0
Rises [] = Unit {0}
Rises (e ∷ es) = RiseAfter e es

pub rest_rises : (e : Edge) (es : List Edge) → RiseAfter e es → Rises es
rest_rises e [] after = tt
rest_rises e (f ∷ fs) after = after.1

after_each : (e : Edge) (es : List Edge) → EachIndex (e ∷ es) (ComesAfter EdgePrecedes (e ∷ es)) → RiseAfter e es
after_each e [] each = tt
after_each e (f ∷ fs) each = (each 1 (omega arith) 0 e refl, after_each f fs (tail_after EdgePrecedes e (f ∷ fs) each))

pub rises : (es : List Edge) → EachIndex es (ComesAfter EdgePrecedes es) → Rises es
rises [] each = tt
rises (e ∷ es) each = after_each e es each

-- ---- of each element and the one before it

none_after : {X : Type 0} (precedes : X → X → Type 0) → EachIndex {X = X} [] (ComesAfter precedes [])
none_after precedes at inside = absurd (omega (arith, inside))

alone_after : {X : Type 0} (precedes : X → X → Type 0) (x : X) → EachIndex (x ∷ []) (ComesAfter precedes (x ∷ []))
alone_after precedes x at inside k d next = absurd (omega (arith, inside, next))

cons_after : {X : Type 0} (precedes : X → X → Type 0) (x y : X) (xs : List X) → precedes x y → EachIndex (y ∷ xs) (ComesAfter precedes (y ∷ xs)) → EachIndex (x ∷ y ∷ xs) (ComesAfter precedes (x ∷ y ∷ xs))
cons_after precedes x y xs first each zero inside k d next = absurd (omega (arith, next))
cons_after precedes x y xs first each (suc zero) inside zero d next = first
cons_after precedes x y xs first each (suc zero) inside (suc k) d next = absurd (omega (arith, next))
cons_after precedes x y xs first each (suc (suc at)) inside zero d next = absurd (omega (arith, next))
cons_after precedes x y xs first each (suc (suc at)) inside (suc k) d next = each (suc at) (omega (arith, inside)) k d (omega (arith, next))

pub names_follow : (n : ℕ) (vs : List ShownVertex) → RiseFrom n vs → EachIndex vs (ComesAfter NamePrecedes vs)
names_follow n [] rising = none_after NamePrecedes
names_follow n (v ∷ []) rising = alone_after NamePrecedes v
names_follow n (v ∷ w ∷ vs) rising = cons_after NamePrecedes v w vs (omega (arith, rising.1.0)) (names_follow (v.name + 1) (w ∷ vs) rising.1)

pub edges_follow : (es : List Edge) → Rises es → EachIndex es (ComesAfter EdgePrecedes es)
edges_follow [] rising = none_after EdgePrecedes
edges_follow (e ∷ []) rising = alone_after EdgePrecedes e
edges_follow (e ∷ f ∷ fs) rising = cons_after EdgePrecedes e f fs rising.0 (edges_follow (f ∷ fs) rising.1)
