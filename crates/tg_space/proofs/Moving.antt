-- A cell as its eight words, those from one on moved.
use Rattle.std.proofs.Common.{◌≡◌, ℕ, ◌<◌, ◌≤◌, ◌+◌, ◌-◌, ◌==◌, Bool, true, false, List, [], ◌∷◌, ◌++◌, length, get_or, take, drop, map, refl, sym, ap, subst, arith, ◌∙◌}
use Rattle.std.specs.List.{All}
use Rattle.std.proofs.lemmas.List.{drop_more, drop_all, get_or-drop, length-drop}
use Rattle.std.proofs.lemmas.List.Elements.{All-get_or}
use Rattle.tg_space.specs.Targets.{first_pointer}

pub pointer_at : (P : ℕ → Type 0) (words : List ℕ) (first i : ℕ) → first ≤ i → i < length words → All P (drop first words) → P (get_or words i 0)
pointer_at P words first i from low all =
    let long = length-drop first words in
    let here : get_or (drop first words) (i - first) 0 ≡ get_or words (first + (i - first)) 0 = get_or-drop first words (i - first) 0 in
    let at : first + (i - first) ≡ i = omega arith in
    subst P (here ∙ ap (λ (n : ℕ). get_or words n 0) at) (All-get_or P (drop first words) (i - first) 0 (omega arith) all)

module _ (f : ℕ → ℕ) (first : ℕ) (a b c d e g h k : ℕ) (v1 v2 v3 v4 v5 v6 v7 : ℕ)
    (l1 : 1 < first → v1 ≡ b) (m1 : first ≤ 1 → v1 ≡ f b) (l2 : 2 < first → v2 ≡ c) (m2 : first ≤ 2 → v2 ≡ f c) (l3 : 3 < first → v3 ≡ d) (m3 : first ≤ 3 → v3 ≡ f d) (l4 : 4 < first → v4 ≡ e) (m4 : first ≤ 4 → v4 ≡ f e) (l5 : 5 < first → v5 ≡ g) (m5 : first ≤ 5 → v5 ≡ f g) (l6 : 6 < first → v6 ≡ h) (m6 : first ≤ 6 → v6 ≡ f h) (l7 : 7 < first → v7 ≡ k) (m7 : first ≤ 7 → v7 ≡ f k) where
  from_one : first ≡ 1 → a ∷ v1 ∷ v2 ∷ v3 ∷ v4 ∷ v5 ∷ v6 ∷ v7 ∷ [] ≡ take first (a ∷ b ∷ c ∷ d ∷ e ∷ g ∷ h ∷ k ∷ []) ++ map f (drop first (a ∷ b ∷ c ∷ d ∷ e ∷ g ∷ h ∷ k ∷ []))
  from_one is =
      rw is (rw (m1 (omega arith), m2 (omega arith), m3 (omega arith), m4 (omega arith), m5 (omega arith), m6 (omega arith), m7 (omega arith)) refl)

  from_four : first ≡ 4 → a ∷ v1 ∷ v2 ∷ v3 ∷ v4 ∷ v5 ∷ v6 ∷ v7 ∷ [] ≡ take first (a ∷ b ∷ c ∷ d ∷ e ∷ g ∷ h ∷ k ∷ []) ++ map f (drop first (a ∷ b ∷ c ∷ d ∷ e ∷ g ∷ h ∷ k ∷ []))
  from_four is =
      rw is (rw (l1 (omega arith), l2 (omega arith), l3 (omega arith), m4 (omega arith), m5 (omega arith), m6 (omega arith), m7 (omega arith)) refl)

  from_eight : first ≡ 8 → a ∷ v1 ∷ v2 ∷ v3 ∷ v4 ∷ v5 ∷ v6 ∷ v7 ∷ [] ≡ take first (a ∷ b ∷ c ∷ d ∷ e ∷ g ∷ h ∷ k ∷ []) ++ map f (drop first (a ∷ b ∷ c ∷ d ∷ e ∷ g ∷ h ∷ k ∷ []))
  from_eight is =
      rw is (rw (l1 (omega arith), l2 (omega arith), l3 (omega arith), l4 (omega arith), l5 (omega arith), l6 (omega arith), l7 (omega arith)) refl)

  pub moved_from : first ≡ first_pointer a → a ∷ v1 ∷ v2 ∷ v3 ∷ v4 ∷ v5 ∷ v6 ∷ v7 ∷ [] ≡ take first (a ∷ b ∷ c ∷ d ∷ e ∷ g ∷ h ∷ k ∷ []) ++ map f (drop first (a ∷ b ∷ c ∷ d ∷ e ∷ g ∷ h ∷ k ∷ []))
  moved_from is = by_tests (a == 1) refl (a == 2) refl
    where
      by_tests : (x : Bool) → (a == 1) ≡ x → (y : Bool) → (a == 2) ≡ y → a ∷ v1 ∷ v2 ∷ v3 ∷ v4 ∷ v5 ∷ v6 ∷ v7 ∷ [] ≡ take first (a ∷ b ∷ c ∷ d ∷ e ∷ g ∷ h ∷ k ∷ []) ++ map f (drop first (a ∷ b ∷ c ∷ d ∷ e ∷ g ∷ h ∷ k ∷ []))
      by_tests true x _ _ = from_four (is ∙ (rw x refl))
      by_tests false x true y = from_one (is ∙ (rw (x, y) refl))
      by_tests false x false y = from_eight (is ∙ (rw (x, y) refl))

-- a cell is its eight words
words_are : (ws : List ℕ) → length ws ≡ 8 → ws ≡ get_or ws 0 0 ∷ get_or ws 1 0 ∷ get_or ws 2 0 ∷ get_or ws 3 0 ∷ get_or ws 4 0 ∷ get_or ws 5 0 ∷ get_or ws 6 0 ∷ get_or ws 7 0 ∷ []
words_are ws long = drop_more ws 0 0 (omega arith) ∙ ap (λ (xs : List ℕ). get_or ws 0 0 ∷ xs) (drop_more ws 1 0 (omega arith) ∙ ap (λ (xs : List ℕ). get_or ws 1 0 ∷ xs) (drop_more ws 2 0 (omega arith) ∙ ap (λ (xs : List ℕ). get_or ws 2 0 ∷ xs) (drop_more ws 3 0 (omega arith) ∙ ap (λ (xs : List ℕ). get_or ws 3 0 ∷ xs) (drop_more ws 4 0 (omega arith) ∙ ap (λ (xs : List ℕ). get_or ws 4 0 ∷ xs) (drop_more ws 5 0 (omega arith) ∙ ap (λ (xs : List ℕ). get_or ws 5 0 ∷ xs) (drop_more ws 6 0 (omega arith) ∙ ap (λ (xs : List ℕ). get_or ws 6 0 ∷ xs) (drop_more ws 7 0 (omega arith) ∙ ap (λ (xs : List ℕ). get_or ws 7 0 ∷ xs) (drop_all 8 ws (omega arith)))))))))

pub copy_is : (f : ℕ → ℕ) (ws : List ℕ) → length ws ≡ 8 → (first : ℕ) → first ≡ first_pointer (get_or ws 0 0) → (v1 v2 v3 v4 v5 v6 v7 : ℕ) →
    (1 < first → v1 ≡ get_or ws 1 0) → (first ≤ 1 → v1 ≡ f (get_or ws 1 0)) → (2 < first → v2 ≡ get_or ws 2 0) → (first ≤ 2 → v2 ≡ f (get_or ws 2 0)) → (3 < first → v3 ≡ get_or ws 3 0) → (first ≤ 3 → v3 ≡ f (get_or ws 3 0)) → (4 < first → v4 ≡ get_or ws 4 0) → (first ≤ 4 → v4 ≡ f (get_or ws 4 0)) → (5 < first → v5 ≡ get_or ws 5 0) → (first ≤ 5 → v5 ≡ f (get_or ws 5 0)) → (6 < first → v6 ≡ get_or ws 6 0) → (first ≤ 6 → v6 ≡ f (get_or ws 6 0)) → (7 < first → v7 ≡ get_or ws 7 0) → (first ≤ 7 → v7 ≡ f (get_or ws 7 0)) →
    get_or ws 0 0 ∷ v1 ∷ v2 ∷ v3 ∷ v4 ∷ v5 ∷ v6 ∷ v7 ∷ [] ≡ take (first_pointer (get_or ws 0 0)) ws ++ map f (drop (first_pointer (get_or ws 0 0)) ws)
copy_is f ws long first is v1 v2 v3 v4 v5 v6 v7 l1 m1 l2 m2 l3 m3 l4 m4 l5 m5 l6 m6 l7 m7 =
    moved_from f first (get_or ws 0 0) (get_or ws 1 0) (get_or ws 2 0) (get_or ws 3 0) (get_or ws 4 0) (get_or ws 5 0) (get_or ws 6 0) (get_or ws 7 0) v1 v2 v3 v4 v5 v6 v7 l1 m1 l2 m2 l3 m3 l4 m4 l5 m5 l6 m6 l7 m7 is
    ∙ ap (λ (xs : List ℕ). take first xs ++ map f (drop first xs)) (sym (words_are ws long))
    ∙ ap (λ (n : ℕ). take n ws ++ map f (drop n ws)) is
