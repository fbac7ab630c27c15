-- Members of lists that were mapped, filtered, joined or searched.
use Rattle.std.proofs.Common.{◌≡◌, ℕ, zero, suc, ◌<◌, ◌⊎◌, ◌+◌, ◌-◌, Bool, true, false, List, [], ◌∷◌, ◌++◌, length, get_or, map, take, drop, Option, Some, None, refl, sym, ap, subst, arith, ◌∙◌, inl, inr, ⊎_elim}
use Rattle.std.specs.List.{All, Contains, filter, find, flat_map}
use Rattle.std.proofs.lemmas.Bool.{cases_Bool}
use Rattle.std.proofs.lemmas.List.{get_or_append_left, get_or-append-add, get_or-append_right, get_or-drop, length-append, length-map, length-take-le}
use Rattle.std.proofs.lemmas.List.Elements.{Contains-append_left, Contains-append_right, Contains-append_cases}

module _ {X : Type 0} where
  pub Contains-here : (x : X) (xs : List X) → Contains (x ∷ xs) x
  Contains-here x xs = (0, omega arith, refl)

  pub Contains-more : (x : X) (xs : List X) (z : X) → Contains xs z → Contains (x ∷ xs) z
  Contains-more x xs z has = let low = has.1 in (suc has.0, omega arith, has.2)

  pub Contains-cases : (x : X) (xs : List X) (z : X) → Contains (x ∷ xs) z → (x ≡ z) ⊎ Contains xs z
  Contains-cases x xs z has = at has.0 has.1 has.2
    where
      at : (k : ℕ) → k < length (x ∷ xs) → get_or (x ∷ xs) k z ≡ z → (x ≡ z) ⊎ Contains xs z
      at zero low e = inl e
      at (suc k) low e = inr (k, omega arith, e)

  pub Contains-none : (z : X) → Contains [] z → ⊥
  Contains-none z has = let low = has.1 in omega arith

  -- a filtered list
  pub Contains-filter : (p : X → Bool) (xs : List X) (x : X) → Contains xs x → p x ≡ true → Contains (filter p xs) x
  Contains-filter p [] x has passes = absurd (Contains-none x has)
  Contains-filter p (y ∷ ys) x has passes = by_test (cases_Bool (p y)) (Contains-cases y ys x has) (λ rest. Contains-filter p ys x rest passes)
    where
      by_test : (p y ≡ true) ⊎ (p y ≡ false) → (y ≡ x) ⊎ Contains ys x → (Contains ys x → Contains (filter p ys) x) → Contains (filter p (y ∷ ys)) x
      by_test (inl t) (inl e) _ = rw t (subst (λ z. Contains (y ∷ filter p ys) z) e (Contains-here y (filter p ys)))
      by_test (inl t) (inr rest) again = rw t (Contains-more y (filter p ys) x (again rest))
      by_test (inr f) (inl e) _ = let no : true ≡ false = sym passes ∙ ap p (sym e) ∙ f in absurd cc
      by_test (inr f) (inr rest) again = rw f (again rest)

  pub Contains-from_filter : (p : X → Bool) (xs : List X) (x : X) → Contains (filter p xs) x → Contains xs x × (p x ≡ true)
  Contains-from_filter p [] x has = absurd (Contains-none x has)
  Contains-from_filter p (y ∷ ys) x has = by_test (cases_Bool (p y)) (Contains-from_filter p ys x)
    where
      passed : (Contains (filter p ys) x → Contains ys x × (p x ≡ true)) → p y ≡ true → (y ≡ x) ⊎ Contains (filter p ys) x → Contains (y ∷ ys) x × (p x ≡ true)
      passed again t (inl e) = (subst (λ z. Contains (y ∷ ys) z) e (Contains-here y ys), ap p (sym e) ∙ t)
      passed again t (inr rest) = let all = again rest in (Contains-more y ys x all.0, all.1)

      by_test : (p y ≡ true) ⊎ (p y ≡ false) → (Contains (filter p ys) x → Contains ys x × (p x ≡ true)) → Contains (y ∷ ys) x × (p x ≡ true)
      by_test (inl t) again = passed again t (Contains-cases y (filter p ys) x (rw t at has))
      by_test (inr f) again = let all = again (rw f at has) in (Contains-more y ys x all.0, all.1)

  -- the first that passes
  pub find_gives : (p : X → Bool) (xs : List X) (x : X) → find p xs ≡ Some x → Contains xs x × (p x ≡ true)
  find_gives p [] x e = absurd cc
  find_gives p (y ∷ ys) x e = by_test (cases_Bool (p y)) (find_gives p ys x)
    where
      by_test : (p y ≡ true) ⊎ (p y ≡ false) → (find p ys ≡ Some x → Contains ys x × (p x ≡ true)) → Contains (y ∷ ys) x × (p x ≡ true)
      by_test (inl t) again =
          let some : Some y ≡ Some x = rw t at e in
          let same : y ≡ x = cc in
          (subst (λ z. Contains (y ∷ ys) z) same (Contains-here y ys), ap p (sym same) ∙ t)
      by_test (inr f) again = let all = again (rw f at e) in (Contains-more y ys x all.0, all.1)

  pub find_none : (p : X → Bool) (xs : List X) (x : X) → find p xs ≡ None → Contains xs x → p x ≡ false
  find_none p [] x e has = absurd (Contains-none x has)
  find_none p (y ∷ ys) x e has = by_test (cases_Bool (p y)) (Contains-cases y ys x has) (λ none rest. find_none p ys x none rest)
    where
      by_test : (p y ≡ true) ⊎ (p y ≡ false) → (y ≡ x) ⊎ Contains ys x → (find p ys ≡ None → Contains ys x → p x ≡ false) → p x ≡ false
      by_test (inl t) _ _ = let none : Some y ≡ None = rw t at e in absurd cc
      by_test (inr f) (inl same) _ = ap p (sym same) ∙ f
      by_test (inr f) (inr rest) again = again (rw f at e) rest

  pub option_cases : (o : Option X) → (o ≡ None) ⊎ ((x : X) × (o ≡ Some x))
  option_cases None = inl refl
  option_cases (Some x) = inr (x, refl)

  -- the parts of a list
  pub All-left : (P : X → Type 0) (xs ys : List X) → All P (xs ++ ys) → All P xs
  All-left P xs ys all k d low =
      subst P (get_or_append_left xs ys d k low) (all k d (omega (arith, length-append xs ys)))

  pub All-right : (P : X → Type 0) (xs ys : List X) → All P (xs ++ ys) → All P ys
  All-right P xs ys all k d low =
      subst P (get_or-append-add xs ys k d) (all (length xs + k) d (omega (arith, length-append xs ys)))

-- what is found after the first element is found in the whole list
pub found_later : {X : Type 0} (P : X → Type 0) (y : X) (ys : List X) → (x : X) × Contains ys x × P x → (x : X) × Contains (y ∷ ys) x × P x
found_later P y ys found = (found.0, Contains-more y ys found.0 found.1, found.2)

module _ {X Y : Type 0} where
  pub Contains-map : (f : X → Y) (xs : List X) (x : X) → Contains xs x → Contains (map f xs) (f x)
  Contains-map f [] x has = absurd (Contains-none x has)
  Contains-map f (y ∷ ys) x has =
      ⊎_elim
      (λ e. subst (λ z. Contains (f y ∷ map f ys) (f z)) e (Contains-here (f y) (map f ys)))
      (λ rest. Contains-more (f y) (map f ys) (f x) (Contains-map f ys x rest))
      (Contains-cases y ys x has)

  pub Contains-from_map : (f : X → Y) (xs : List X) (z : Y) → Contains (map f xs) z → (x : X) × Contains xs x × (f x ≡ z)
  Contains-from_map f [] z has = absurd (Contains-none z has)
  Contains-from_map f (y ∷ ys) z has =
      ⊎_elim (λ e. (y, Contains-here y ys, e)) (λ rest. found_later (λ x. f x ≡ z) y ys (Contains-from_map f ys z rest)) (Contains-cases (f y) (map f ys) z has)

  pub Contains-flat_map : (f : X → List Y) (xs : List X) (x : X) (z : Y) → Contains xs x → Contains (f x) z → Contains (flat_map f xs) z
  Contains-flat_map f [] x z has _ = absurd (Contains-none x has)
  Contains-flat_map f (y ∷ ys) x z has inside =
      ⊎_elim
      (λ e. Contains-append_left (f y) (flat_map f ys) z (subst (λ w. Contains (f w) z) (sym e) inside))
      (λ rest. Contains-append_right (f y) (flat_map f ys) z (Contains-flat_map f ys x z rest inside))
      (Contains-cases y ys x has)

  pub Contains-from_flat_map : (f : X → List Y) (xs : List X) (z : Y) → Contains (flat_map f xs) z → (x : X) × Contains xs x × Contains (f x) z
  Contains-from_flat_map f [] z has = absurd (Contains-none z has)
  Contains-from_flat_map f (y ∷ ys) z has =
      ⊎_elim (λ first. (y, Contains-here y ys, first)) (λ rest. found_later (λ x. Contains (f x) z) y ys (Contains-from_flat_map f ys z rest)) (Contains-append_cases (f y) (flat_map f ys) z has)

-- what is still as it was, where the elements before it were mapped
pub still_at : (X : Type 0) (f : X → X) (xs ys : List X) (i : ℕ) (d : X) → ys ≡ map f (take i xs) ++ drop i xs → i < length xs → get_or ys i d ≡ get_or xs i d
still_at X f xs ys i d is low =
    let long : length (map f (take i xs)) ≡ i = length-map (take i xs) f ∙ length-take-le i xs (omega arith) in
    let back : i + (i - i) ≡ i = omega arith in
    ap (λ (zs : List X). get_or zs i d) is
    ∙ get_or-append_right (map f (take i xs)) (drop i xs) i i d long (omega arith)
    ∙ get_or-drop i xs (i - i) d
    ∙ ap (λ (k : ℕ). get_or xs k d) back
