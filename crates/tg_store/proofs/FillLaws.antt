-- What an account holds once edges were put into it one by one, and that it holds nothing once all of them were taken back.
use mathlib.Core.Bool.{true≢false}
use Rattle.std.proofs.Common.{◌≡◌, ◌≢◌, ◌∙◌, ◌⊎◌, inl, inr, ⊎_elim, ℕ, zero, suc, ◌+◌, ◌<◌, ◌≤◌, ◌==◌, ◌&&◌, ◌||◌, Bool, true, false, not, cond, List, [], ◌∷◌, ◌++◌, map, take, refl, sym, ap, subst, arith}
use Rattle.std.specs.List.{filter, range_with_len}
use Rattle.std.proofs.lemmas.Bool.{eqb-true, eqb-false, eq-eqb, ne_eqb}
use Rattle.tg_rights.specs.RightSet.{RightSet, has, is_none_held, minus, no_rights, set_where, union}
use Rattle.tg_rights.proofs.RightLaws.{has-union, same_rights}
use Rattle.tg_model.specs.Graph.{with_rights, without_rights}
use Rattle.tg_store.specs.Inner.Parking.{given, taken_back}

-- ---- sets of rights

or_self : (b : Bool) → (b || b) ≡ b
or_self true = refl
or_self false = refl

and_not_self : (b : Bool) → (b && not b) ≡ false
and_not_self true = refl
and_not_self false = refl

union_self : (s : RightSet) → union s s ≡ s
union_self s = same_rights (union s s) s (λ x. has-union s s x ∙ or_self (has s x))

pub minus_self : (s : RightSet) → minus s s ≡ no_rights
minus_self s = λ i. set_where (λ x. and_not_self (has s x) i)

pub minus_none : (s : RightSet) → minus no_rights s ≡ no_rights
minus_none s = refl

cond_same : (v : Bool) (s : RightSet) → cond v s s ≡ s
cond_same true s = refl
cond_same false s = refl

either : (v : Bool) (s r : RightSet) → r ≡ s → cond v s r ≡ s
either true s r same = refl
either false s r same = same

-- ---- edges of a row

-- whether a list has an edge to a name
abbrev pub has_name : ℕ → List (ℕ × RightSet) → Bool
has_name b [] = false
has_name b (e ∷ es) = (b == e.0) || has_name b es

-- They are edges of a row with these rights, and none of them is empty.
abbrev pub AreEdges : (ℕ → RightSet) → List (ℕ × RightSet) → Type 0
AreEdges f [] = Unit {0}
AreEdges f (e ∷ es) = (e.1 ≡ f e.0) × (is_none_held (f e.0) ≡ false) × AreEdges f es

edges_taken : (n : ℕ) (f : ℕ → RightSet) (es : List (ℕ × RightSet)) → AreEdges f es → AreEdges f (take n es)
edges_taken zero f es are = tt
edges_taken (suc n) f [] are = tt
edges_taken (suc n) f (e ∷ es) are = (are.0, are.1, edges_taken n f es are.2)

name_taken : (n : ℕ) (b : ℕ) (es : List (ℕ × RightSet)) → has_name b (take n es) ≡ true → has_name b es ≡ true
name_taken zero b es has = absurd (true≢false (sym has))
name_taken (suc n) b [] has = absurd (true≢false (sym has))
name_taken (suc n) b (e ∷ es) has =
    elim (b == e.0) as (λ v. (v || has_name b (take n es)) ≡ true → (v || has_name b es) ≡ true) [
      | true ↦ λ _. refl
      | false ↦ λ there. name_taken n b es there
    ] has

-- the edges over names from n on, of m names
abbrev pub row_from : (ℕ → RightSet) → ℕ → ℕ → List (ℕ × RightSet)
row_from f n m = filter (λ e. not (is_none_held e.1)) (map (λ y. (y, f y)) (range_with_len n m))

pub row_edges : (m n : ℕ) (f : ℕ → RightSet) → AreEdges f (row_from f n m)
row_edges zero n f = tt
row_edges (suc m) n f =
    let rest = row_from f (n + 1) m in
    elim (is_none_held (f n)) as (λ v. is_none_held (f n) ≡ v → AreEdges f (cond (not v) ((n, f n) ∷ rest) rest)) [
      | true ↦ λ none. row_edges m (n + 1) f
      | false ↦ λ some. (refl, some, row_edges m (n + 1) f)
    ] refl

pub row_has : (m n b : ℕ) (f : ℕ → RightSet) → n ≤ b → b < n + m → is_none_held (f b) ≡ false → has_name b (row_from f n m) ≡ true
row_has zero n b f low high some = absurd (omega (arith, low, high))
row_has (suc m) n b f low high some =
    let rest = row_from f (n + 1) m in
    let later : b ≢ n → has_name b rest ≡ true = λ apart. row_has m (n + 1) b f (omega (arith, low, apart)) (omega (arith, high)) some in
    elim (is_none_held (f n)) as (λ v. is_none_held (f n) ≡ v → has_name b (cond (not v) ((n, f n) ∷ rest) rest) ≡ true) [
      | true ↦ λ none. later (λ is. true≢false (sym none ∙ sym (ap (λ y. is_none_held (f y)) is) ∙ some))
      | false ↦ λ held.
          elim (b == n) as (λ v. (b == n) ≡ v → (v || has_name b rest) ≡ true) [
            | true ↦ λ _. refl
            | false ↦ λ isnt. later (eqb-false b n isnt)
          ] refl
    ] refl

-- ---- edges are given

module _ (label : ℕ → ℕ → RightSet) (x y : ℕ) (s : RightSet) where
  pub with_others : (a b : ℕ) → a ≢ x → with_rights label x y s a b ≡ label a b
  with_others a b apart = ap (λ v. cond (v && (b == y)) (union (label a b) s) (label a b)) (ne_eqb a x apart)

  pub with_own : (b : ℕ) → with_rights label x y s x b ≡ cond (b == y) (union (label x b) s) (label x b)
  with_own b = ap (λ v. cond (v && (b == y)) (union (label x b) s) (label x b)) (eq-eqb x x refl)

  pub without_others : (a b : ℕ) → a ≢ x → without_rights label x y s a b ≡ label a b
  without_others a b apart = ap (λ v. cond (v && (b == y)) (minus (label a b) s) (label a b)) (ne_eqb a x apart)

  pub without_own : (b : ℕ) → without_rights label x y s x b ≡ cond (b == y) (minus (label x b) s) (label x b)
  without_own b = ap (λ v. cond (v && (b == y)) (minus (label x b) s) (label x b)) (eq-eqb x x refl)

pub given_push : (es : List (ℕ × RightSet)) (label : ℕ → ℕ → RightSet) (x : ℕ) (e : ℕ × RightSet) → given label x (es ++ e ∷ []) ≡ with_rights (given label x es) x e.0 e.1
given_push [] label x e = refl
given_push (d ∷ es) label x e = given_push es (with_rights label x d.0 d.1) x e

pub given_others : (es : List (ℕ × RightSet)) (label : ℕ → ℕ → RightSet) (x a b : ℕ) → a ≢ x → given label x es a b ≡ label a b
given_others [] label x a b apart = refl
given_others (e ∷ es) label x a b apart = given_others es (with_rights label x e.0 e.1) x a b apart ∙ with_others label x e.0 e.1 a b apart

-- what x holds over b once it was given edges of a row, of which it held nothing else over b
pub given_own : (es : List (ℕ × RightSet)) (label : ℕ → ℕ → RightSet) (x : ℕ) (f : ℕ → RightSet) (b : ℕ) → AreEdges f es → (label x b ≡ no_rights) ⊎ (label x b ≡ f b)
    → given label x es x b ≡ cond (has_name b es) (f b) (label x b)
given_own [] label x f b are base = refl
given_own (e ∷ es) label x f b are base =
    let next : ℕ → ℕ → RightSet = with_rights label x e.0 e.1 in
    let here : next x b ≡ cond (b == e.0) (union (label x b) e.1) (label x b) = with_own label x e.0 e.1 b in
    elim (b == e.0) as (λ v. (b == e.0) ≡ v → given next x es x b ≡ cond (v || has_name b es) (f b) (label x b)) [
      | true ↦ λ is.
          let same : e.1 ≡ f b = are.0 ∙ ap f (sym (eqb-true b e.0 is)) in
          let joined : union (label x b) e.1 ≡ f b =
          ⊎_elim (λ none. (λ i. union (none i) (same i))) (λ held. (λ i. union (held i) (same i)) ∙ union_self (f b)) base in
          let added : next x b ≡ f b = here ∙ ap (λ v. cond v (union (label x b) e.1) (label x b)) is ∙ joined in
          given_own es next x f b are.2 (inr added) ∙ either (has_name b es) (f b) (next x b) added
      | false ↦ λ isnt.
          let same : next x b ≡ label x b = here ∙ ap (λ v. cond v (union (label x b) e.1) (label x b)) isnt in
          given_own es next x f b are.2 (⊎_elim (λ none. inl (same ∙ none)) (λ held. inr (same ∙ held)) base) ∙ ap (λ s. cond (has_name b es) (f b) s) same
    ] refl

-- a row has no edge to a name over which nothing is held
pub not_named : (es : List (ℕ × RightSet)) (f : ℕ → RightSet) (b : ℕ) → AreEdges f es → f b ≡ no_rights → has_name b es ≡ false
not_named [] f b are none = refl
not_named (e ∷ es) f b are none =
    elim (b == e.0) as (λ v. (b == e.0) ≡ v → (v || has_name b es) ≡ false) [
      | true ↦ λ is. absurd (true≢false (sym (ap is_none_held (ap f (sym (eqb-true b e.0 is)) ∙ none)) ∙ are.1))
      | false ↦ λ _. not_named es f b are.2 none
    ] refl

-- what x holds over a name to which no edge leads stays
pub given_elsewhere : (es : List (ℕ × RightSet)) (label : ℕ → ℕ → RightSet) (x b : ℕ) → has_name b es ≡ false → given label x es x b ≡ label x b
given_elsewhere [] label x b isnt = refl
given_elsewhere (e ∷ es) label x b isnt =
    let next : ℕ → ℕ → RightSet = with_rights label x e.0 e.1 in
    elim (b == e.0) as (λ v. (b == e.0) ≡ v → (v || has_name b es) ≡ false → given next x es x b ≡ label x b) [
      | true ↦ λ _ none. absurd (true≢false none)
      | false ↦ λ other none. given_elsewhere es next x b none ∙ with_own label x e.0 e.1 b ∙ ap (λ v. cond v (union (label x b) e.1) (label x b)) other
    ] refl isnt

-- ---- edges are taken back

pub taken_push : (es : List (ℕ × RightSet)) (label : ℕ → ℕ → RightSet) (x : ℕ) (e : ℕ × RightSet) → taken_back label x (es ++ e ∷ []) ≡ without_rights (taken_back label x es) x e.0 e.1
taken_push [] label x e = refl
taken_push (d ∷ es) label x e = taken_push es (without_rights label x d.0 d.1) x e

taken_others : (es : List (ℕ × RightSet)) (label : ℕ → ℕ → RightSet) (x a b : ℕ) → a ≢ x → taken_back label x es a b ≡ label a b
taken_others [] label x a b apart = refl
taken_others (e ∷ es) label x a b apart = taken_others es (without_rights label x e.0 e.1) x a b apart ∙ without_others label x e.0 e.1 a b apart

-- where nothing is held, nothing is held then
taken_none : (es : List (ℕ × RightSet)) (label : ℕ → ℕ → RightSet) (x b : ℕ) → label x b ≡ no_rights → taken_back label x es x b ≡ no_rights
taken_none [] label x b none = none
taken_none (e ∷ es) label x b none =
    taken_none es (without_rights label x e.0 e.1) x b
    (without_own label x e.0 e.1 b ∙ ap (λ s. cond (b == e.0) (minus s e.1) s) none ∙ cond_same (b == e.0) no_rights)

-- nor where an edge of the list was held
taken_held : (es : List (ℕ × RightSet)) (label : ℕ → ℕ → RightSet) (x : ℕ) (f : ℕ → RightSet) (b : ℕ) → AreEdges f es → label x b ≡ f b → has_name b es ≡ true → taken_back label x es x b ≡ no_rights
taken_held [] label x f b are held has = absurd (true≢false (sym has))
taken_held (e ∷ es) label x f b are held has =
    let next : ℕ → ℕ → RightSet = without_rights label x e.0 e.1 in
    let here : next x b ≡ cond (b == e.0) (minus (label x b) e.1) (label x b) = without_own label x e.0 e.1 b in
    elim (b == e.0) as (λ v. (b == e.0) ≡ v → (v || has_name b es) ≡ true → taken_back next x es x b ≡ no_rights) [
      | true ↦ λ is _.
          let same : e.1 ≡ f b = are.0 ∙ ap f (sym (eqb-true b e.0 is)) in
          taken_none es next x b (here ∙ ap (λ v. cond v (minus (label x b) e.1) (label x b)) is ∙ (λ i. minus (held i) (same i)) ∙ minus_self (f b))
      | false ↦ λ isnt there.
          taken_held es next x f b are.2 (here ∙ ap (λ v. cond v (minus (label x b) e.1) (label x b)) isnt ∙ held) there
    ] refl has

-- Who held nothing and was given some edges of a row holds nothing once all edges of the row were taken back, and all else is as it was.
pub undone : (n : ℕ) (row : List (ℕ × RightSet)) (label : ℕ → ℕ → RightSet) (x : ℕ) (f : ℕ → RightSet) → AreEdges f row → ((b : ℕ) → label x b ≡ no_rights) → (a b : ℕ)
    → taken_back (given label x (take n row)) x row a b ≡ label a b
undone n row label x f are empty a b =
    let some : List (ℕ × RightSet) = take n row in
    let mid : ℕ → ℕ → RightSet = given label x some in
    let own : mid x b ≡ cond (has_name b some) (f b) (label x b) = given_own some label x f b (edges_taken n f row are) (inl (empty b)) in
    elim (a == x) as (λ v. (a == x) ≡ v → taken_back mid x row a b ≡ label a b) [
      | true ↦ λ is.
          let mine : taken_back mid x row x b ≡ no_rights =
          elim (has_name b some) as (λ v. has_name b some ≡ v → taken_back mid x row x b ≡ no_rights) [
            | true ↦ λ there. taken_held row mid x f b are (own ∙ ap (λ v. cond v (f b) (label x b)) there) (name_taken n b row there)
            | false ↦ λ not_there. taken_none row mid x b (own ∙ ap (λ v. cond v (f b) (label x b)) not_there ∙ empty b)
          ] refl in
          subst (λ (y : ℕ). taken_back mid x row y b ≡ label y b) (sym (eqb-true a x is)) (mine ∙ sym (empty b))
      | false ↦ λ isnt. taken_others row mid x a b (eqb-false a x isnt) ∙ given_others some label x a b (eqb-false a x isnt)
    ] refl
