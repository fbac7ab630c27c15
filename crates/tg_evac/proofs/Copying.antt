-- What maps and filters have, and steps of the notes: one more place, and one more root.
use Rattle.std.proofs.Common.{◌≡◌, ℕ, zero, suc, ◌<◌, ◌+◌, ◌⊎◌, ◌↔◌, Bool, true, false, List, [], ◌∷◌, ◌++◌, length, get_or, map, take, refl, sym, ap, subst, arith, ◌∙◌, inl, inr, ⊎_elim}
use Rattle.std.specs.List.{Contains, filter}
use Rattle.std.proofs.lemmas.List.{append-nil, get_or-map, length-map, take_more}
use Rattle.std.proofs.lemmas.List.Elements.{Contains-append_left, Contains-append_right, Contains-push, Contains-push_cases, filter-append}
use Rattle.tg_word.specs.declared.Place.{Place}
use Rattle.tg_space.specs.declared.root.Root.{Root}
use Rattle.tg_space.specs.declared.root.Root.TheVariants.{Remembered}

-- ---- maps

module _ {A B : Type 0} (f : A → B) where
  pub map_has : (xs : List A) (x : A) → Contains xs x → Contains (map f xs) (f x)
  map_has xs x held =
      let low : held.0 < length (map f xs) = rw length-map held.1 in
      (held.0, low, get_or-map f xs held.0 x (f x) held.1 ∙ ap f held.2)

  pub map_found : (xs : List A) (y : B) → Contains (map f xs) y → (x : A) × Contains xs x × (f x ≡ y)
  map_found [] y held = absurd (let low = held.1 in omega arith)
  map_found (x ∷ xs) y (zero, low, is) = (x, (0, omega arith, refl), is)
  map_found (x ∷ xs) y (suc k, low, is) = let found = map_found xs y (k, omega arith, is) in (found.0, Contains-append_right (x ∷ []) xs found.0 found.1, found.2)

-- ---- filters

module _ {A : Type 0} (p : A → Bool) where
  pub filter_has : (xs : List A) (x : A) → Contains xs x → p x ≡ true → Contains (filter p xs) x
  filter_has [] x held t = absurd (let low = held.1 in omega arith)
  filter_has (y ∷ ys) x (zero, low, is) t = let here : p y ≡ true = ap p is ∙ t in rw here (0, omega arith, is)
  filter_has (y ∷ ys) x (suc i, low, is) t = go (p y) refl (filter_has ys x (i, omega arith, is) t)
    where
      go : (b : Bool) → p y ≡ b → Contains (filter p ys) x → Contains (filter p (y ∷ ys)) x
      go true e rest = rw e (Contains-append_right (y ∷ []) (filter p ys) x rest)
      go false e rest = rw e rest

  -- one more element
  pub filter_push : (xs : List A) (x : A) → p x ≡ true → filter p (xs ++ x ∷ []) ≡ filter p xs ++ x ∷ []
  filter_push xs x t = let one : filter p (x ∷ []) ≡ x ∷ [] = rw t refl in filter-append p xs (x ∷ []) ∙ ap (λ (ys : List A). filter p xs ++ ys) one

  pub filter_other : (xs : List A) (x : A) → p x ≡ false → filter p (xs ++ x ∷ []) ≡ filter p xs
  filter_other xs x t = let none : filter p (x ∷ []) ≡ [] = rw t refl in filter-append p xs (x ∷ []) ∙ ap (λ (ys : List A). filter p xs ++ ys) none ∙ append-nil (filter p xs)

-- two places of a space that differ, differ in their block or their cell
pub same_place : (p q : Place) → p.space ≡ q.space → p.block ≡ q.block → p.cell ≡ q.cell → p ≡ q
same_place p q s b c i = record { space = s i; block = b i; cell = c i }

-- ---- one more root

module _ (roots : List Root) (i : ℕ) (d : Root) (inside : i < length roots) (young : Place → Type 0) (noted before after : List Place)
    (was : (p : Place) → Contains before p ↔ (Contains noted p ⊎ (Contains (take i roots) (Remembered p) × young p)))
    (step : (p : Place) → Contains after p ↔ (Contains before p ⊎ ((get_or roots i d ≡ Remembered p) × young p))) where
  one_more : take (i + 1) roots ≡ take i roots ++ get_or roots i d ∷ []
  one_more = take_more roots i d inside

  pub noted_root : (p : Place) → Contains after p ↔ (Contains noted p ⊎ (Contains (take (i + 1) roots) (Remembered p) × young p))
  noted_root p = (forth, back)
    where
      forth : Contains after p → Contains noted p ⊎ (Contains (take (i + 1) roots) (Remembered p) × young p)
      forth held = ⊎_elim
          (λ (early : Contains before p). ⊎_elim (λ n. inl n)
          (λ root. inr (subst (λ (rs : List Root). Contains rs (Remembered p)) (sym one_more) (Contains-append_left (take i roots) (get_or roots i d ∷ []) (Remembered p) root.0), root.1)) ((was p).0 early))
          (λ last. inr (subst (λ (rs : List Root). Contains rs (Remembered p)) (sym one_more) (subst (λ (r : Root). Contains (take i roots ++ get_or roots i d ∷ []) r) last.0 (Contains-push (take i roots) (get_or roots i d))), last.1))
          ((step p).0 held)

      back : Contains noted p ⊎ (Contains (take (i + 1) roots) (Remembered p) × young p) → Contains after p
      back has = ⊎_elim
          (λ n. (step p).1 (inl ((was p).1 (inl n))))
          (λ root. ⊎_elim
          (λ (early : Contains (take i roots) (Remembered p)). (step p).1 (inl ((was p).1 (inr (early, root.1)))))
          (λ (last : get_or roots i d ≡ Remembered p). (step p).1 (inr (last, root.1)))
          (Contains-push_cases (take i roots) (get_or roots i d) (Remembered p) (subst (λ (rs : List Root). Contains rs (Remembered p)) one_more root.0)))
          has
