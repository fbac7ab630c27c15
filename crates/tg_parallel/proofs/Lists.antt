-- Facts on lists: what one has, and numbers that are once.
use Rattle.std.proofs.Common.{◌≡◌, ◌≢◌, ℕ, zero, suc, ◌+◌, ◌-◌, ◌*◌, ◌/◌, ◌<◌, ◌≤◌, ◌==◌, ◌||◌, ◌++◌, if◌then◌else◌, List, [], ◌∷◌, Bool, true, false, length, get_or, take, drop, refl, sym, ap, subst, ◌∙◌, eqb-true, ⊎_elim, arith}
use Rattle.std.specs.List.{All, AllPairs, Contains, list_any, flat_map}
use Rattle.std.proofs.lemmas.Bool.{false≢true}
use Rattle.std.proofs.lemmas.List.{get_or-take, length-append, length-take-le, get_or_append_left, get_or-append_right}
use Rattle.std.proofs.lemmas.List.Folds.{list_any_at}
use Rattle.std.proofs.lemmas.List.Elements.{Contains-append_left, Contains-append_right, Contains-append_cases}
use Rattle.tg_race.specs.Weights.{weigh, one_at}
use Rattle.tg_race.proofs.Drawn.{number_found, weighs_at}
use Rattle.tg_race.proofs.Sums.{weigh-append}
use Rattle.tg_parallel.specs.Parts.{AreOnce}

module _ {A : Type 0} where
  -- ---- All

  pub all_left : (P : A → Type 0) (xs ys : List A) → All P (xs ++ ys) → All P xs
  all_left P xs ys all = λ k d low. subst (λ (x : A). P x) (get_or_append_left xs ys d k low) (all k d (omega (arith, length-append xs ys)))

  pub all_right : (P : A → Type 0) (xs ys : List A) → All P (xs ++ ys) → All P ys
  all_right P xs ys all = λ k d low.
      let e : length xs + k - length xs ≡ k = omega arith in
      subst (λ (x : A). P x) (get_or-append_right xs ys (length xs) (length xs + k) d refl (omega arith) ∙ ap (λ (n : ℕ). get_or ys n d) e)
      (all (length xs + k) d (omega (arith, length-append xs ys)))

  -- ---- tests

  pub any_has : (f : A → Bool) (xs : List A) (x : A) → Contains xs x → f x ≡ true → list_any f xs ≡ true
  any_has f xs x held h = list_any_at f xs held.0 x held.1 (ap f held.2 ∙ h)

  pub any_found : (f : A → Bool) (xs : List A) → list_any f xs ≡ true → (x : A) × Contains xs x × (f x ≡ true)
  any_found f [] h = absurd (false≢true h)
  any_found f (x ∷ xs) h = go (f x) refl h (any_found f xs)
    where
      go : (b : Bool) → f x ≡ b → (b || list_any f xs) ≡ true → (list_any f xs ≡ true → (y : A) × Contains xs y × (f y ≡ true)) → (y : A) × Contains (x ∷ xs) y × (f y ≡ true)
      go true e h more = (x, (0, omega arith, refl), e)
      go false e h more = let found = more h in (found.0, Contains-append_right (x ∷ []) xs found.0 found.1, found.2)

-- ---- pieces

module _ {A B : Type 0} (f : A → List B) where
  pub flat_has : (xs : List A) (x : A) (y : B) → Contains xs x → Contains (f x) y → Contains (flat_map f xs) y
  flat_has [] x y held there = absurd (let low = held.1 in omega arith)
  flat_has (a ∷ xs) x y (zero, low, is) there = Contains-append_left (f a) (flat_map f xs) y (subst (λ (z : A). Contains (f z) y) (sym is) there)
  flat_has (a ∷ xs) x y (suc k, low, is) there = Contains-append_right (f a) (flat_map f xs) y (flat_has xs x y (k, omega arith, is) there)

  pub flat_found : (xs : List A) (y : B) → Contains (flat_map f xs) y → (x : A) × Contains xs x × Contains (f x) y
  flat_found [] y held = absurd (let low = held.1 in omega arith)
  flat_found (a ∷ xs) y held = ⊎_elim
      (λ here. (a, (0, omega arith, refl), here))
      (λ later. let found = flat_found xs y later in (found.0, Contains-append_right (a ∷ []) xs found.0 found.1, found.2))
      (Contains-append_cases (f a) (flat_map f xs) y held)

module _ {A : Type 0} where
  take_found : (n : ℕ) (xs : List A) (x : A) → Contains (take n xs) x → Contains xs x
  take_found zero xs x held = absurd (let low = held.1 in omega arith)
  take_found (suc n) [] x held = absurd (let low = held.1 in omega arith)
  take_found (suc n) (y ∷ xs) x (zero, low, is) = (0, omega arith, is)
  take_found (suc n) (y ∷ xs) x (suc k, low, is) = Contains-append_right (y ∷ []) xs x (take_found n xs x (k, omega arith, is))

  drop_has : (n : ℕ) (xs : List A) (i : ℕ) (x : A) → n ≤ i → i < length xs → get_or xs i x ≡ x → (i - n < length (drop n xs)) × (get_or (drop n xs) (i - n) x ≡ x)
  drop_has zero xs i x le low is = let e : i - 0 ≡ i = omega arith in (omega arith, ap (λ (k : ℕ). get_or xs k x) e ∙ is)
  drop_has (suc n) [] i x le low is = absurd (omega arith)
  drop_has (suc n) (y ∷ xs) zero x le low is = absurd (omega arith)
  drop_has (suc n) (y ∷ xs) (suc i) x le low is =
      let more = drop_has n xs i x (omega arith) (omega arith) is in
      let e : suc i - suc n ≡ i - n = omega arith in
      (omega (arith, more.0), ap (λ (k : ℕ). get_or (drop n xs) k x) e ∙ more.1)

  drop_found : (n : ℕ) (xs : List A) (x : A) → Contains (drop n xs) x → Contains xs x
  drop_found zero xs x held = held
  drop_found (suc n) [] x held = absurd (let low = held.1 in omega arith)
  drop_found (suc n) (y ∷ xs) x held = Contains-append_right (y ∷ []) xs x (drop_found n xs x held)

  pub chunk_found : (xs : List A) (c : ℕ) (x : A) → Contains (drop (length xs - 8 * (c + 1)) (take (length xs - 8 * c) xs)) x → Contains xs x
  chunk_found xs c x held = take_found (length xs - 8 * c) xs x (drop_found (length xs - 8 * (c + 1)) (take (length xs - 8 * c) xs) x held)

  pub chunk_has : (xs : List A) (i : ℕ) (x : A) → i < length xs → get_or xs i x ≡ x →
      (c : ℕ) → c ≡ (length xs - 1 - i) / 8 → Contains (drop (length xs - 8 * (c + 1)) (take (length xs - 8 * c) xs)) x
  chunk_has xs i x low is c chunk =
      let first = length xs - 8 * (c + 1) in let end = length xs - 8 * c in
      let long : length (take end xs) ≡ end = length-take-le end xs (omega arith) in
      let there = drop_has first (take end xs) i x (omega (arith, chunk, low)) (omega (arith, chunk, low, long)) (get_or-take end xs i x (omega (arith, chunk, low)) ∙ is) in
      (i - first, there.0, there.1)

-- ---- numbers that stand once

pub has_weighs : (xs : List ℕ) (n : ℕ) → Contains xs n → 0 < weigh (one_at n) xs
has_weighs xs n held = subst (λ (m : ℕ). 0 < weigh (one_at m) xs) held.2 (weighs_at xs held.0 n held.1)

module _ (xs ys : List ℕ) (once : AreOnce (xs ++ ys)) where
  pub once_left : AreOnce xs
  once_left n = let o = once n in omega (arith, weigh-append (one_at n) xs ys)

  pub once_right : AreOnce ys
  once_right n = let o = once n in omega (arith, weigh-append (one_at n) xs ys)

  pub once_apart : (n : ℕ) → 0 < weigh (one_at n) xs → 0 < weigh (one_at n) ys → ⊥
  once_apart n left right = absurd (let o = once n in omega (arith, weigh-append (one_at n) xs ys))

-- numbers that differ are once
pub once_differ : (xs : List ℕ) → AllPairs (λ m n. m ≢ n) xs → AreOnce xs
once_differ [] apart n = omega arith
once_differ (x ∷ xs) apart n = go (x == n) refl (once_differ xs (λ i j d lt low. apart (suc i) (suc j) d (omega arith) (omega arith)) n)
  where
    none_after : x ≡ n → (w : ℕ) → weigh (one_at n) xs ≡ w → w ≡ 0
    none_after is zero e = refl
    none_after is (suc w) e = absurd (let found = number_found n xs (omega arith) in apart 0 (suc found.0) n (omega arith) (let low = found.1 in omega arith) (is ∙ sym found.2))

    go : (b : Bool) → (x == n) ≡ b → weigh (one_at n) xs ≤ 1 → (if b then 1 else 0) + weigh (one_at n) xs ≤ 1
    go true e less = let none = none_after (eqb-true x n e) (weigh (one_at n) xs) refl in omega arith
    go false e less = omega arith
