-- The names of a heap, read off its cells one after the other, and put into a slice as far as there is room.
use Rattle.std.proofs.Common.{◌≡◌, ℕ, zero, suc, ◌<◌, ◌≤◌, ◌+◌, ◌⊎◌, inl, inr, true, false, List, [], ◌∷◌, ◌++◌, length, map, take, set, get_or, refl, sym, ap, arith, ◌∙◌}
use Rattle.std.specs.List.{filter}
use Rattle.std.proofs.lemmas.Bool.{cases_Bool, eq-eqb, eqb-true}
use Rattle.std.proofs.lemmas.List.{append-nil, length-append, map-append, take_all, take_more}
use Rattle.std.proofs.lemmas.List.Elements.{filter-append}
use Rattle.tg_word.specs.declared.Place.{Place}
use Rattle.tg_space.specs.SpaceList.{SpaceList, IsSpaceList, cell_at, cells_of}
use Rattle.tg_rows.specs.Rows.{is_object, name_at, objects_of, places_of}
use Rattle.tg_graph.specs.Shown.{shown_in}
use Rattle.tg_graph.proofs.Counted.{places_cells}

-- ---- names of cells

-- the names of the objects among these cells
abbrev pub names_of : List (List ℕ) → List ℕ
names_of cells = map (λ words. get_or words 1 0) (filter is_object cells)

-- one cell more
pub names_more : (cells : List (List ℕ)) (n : ℕ) → n < length cells → names_of (take (n + 1) cells) ≡ names_of (take n cells) ++ names_of (get_or cells n [] ∷ [])
names_more cells n low =
    ap names_of (take_more cells n [] low)
    ∙ ap (map (λ (words : List ℕ). get_or words 1 0)) (filter-append is_object (take n cells) (get_or cells n [] ∷ []))
    ∙ map-append (λ (words : List ℕ). get_or words 1 0) (filter is_object (take n cells)) (filter is_object (get_or cells n [] ∷ []))

pub names_object : (words : List ℕ) → is_object words ≡ true → names_of (words ∷ []) ≡ get_or words 1 0 ∷ []
names_object words t = rw t refl

pub names_other : (words : List ℕ) → is_object words ≡ false → names_of (words ∷ []) ≡ []
names_other words f = rw f refl

-- ---- cells and places

module _ (h : SpaceList) where
  names_at : (places : List Place) → names_of (map (cell_at h) places) ≡ map (name_at h) (filter (λ p. is_object (cell_at h p)) places)
  names_at [] = refl
  names_at (p ∷ ps) = by_kind (cases_Bool (is_object (cell_at h p))) (names_at ps)
    where
      by_kind : (is_object (cell_at h p) ≡ true) ⊎ (is_object (cell_at h p) ≡ false) → names_of (map (cell_at h) ps) ≡ map (name_at h) (filter (λ q. is_object (cell_at h q)) ps) → names_of (map (cell_at h) (p ∷ ps)) ≡ map (name_at h) (filter (λ q. is_object (cell_at h q)) (p ∷ ps))
      by_kind (inl t) rest = rw t (ap (λ (xs : List ℕ). name_at h p ∷ xs) rest)
      by_kind (inr f) rest = rw f rest

  -- so the names of the objects are those of the cells
  pub names_all : IsSpaceList h → (n : ℕ) → length (cells_of h) ≤ n → names_of (take n (cells_of h)) ≡ map (name_at h) (objects_of h)
  names_all is n end = ap names_of (take_all n (cells_of h) end ∙ sym (places_cells h is)) ∙ names_at (places_of h)

-- ---- a slice with room

take_none : {X : Type 0} (n : ℕ) → take {A = X} n [] ≡ []
take_none zero = refl
take_none (suc n) = refl

-- the next number goes after those before it, where there is room
pub shown_more : (numbers room : List ℕ) (x : ℕ) → set (shown_in numbers room) (length numbers) x ≡ shown_in (numbers ++ x ∷ []) room
shown_more [] [] x = refl
shown_more [] (r ∷ rs) x = ap (λ (xs : List ℕ). set (xs ++ r ∷ rs) 0 x) (take_none (length (r ∷ rs))) ∙ ap (λ (xs : List ℕ). x ∷ (xs ++ rs)) (sym (take_none (length rs)))
shown_more (n ∷ ns) [] x = refl
shown_more (n ∷ ns) (r ∷ rs) x = ap (λ (xs : List ℕ). n ∷ xs) (shown_more ns rs x)

-- ---- one cell more

module _ (cells : List (List ℕ)) (n : ℕ) (low : n < length cells) (words : List ℕ) (is : words ≡ get_or cells n []) (count : ℕ) (into room : List ℕ) (counted : count ≡ length (names_of (take n cells))) (shown : into ≡ shown_in (names_of (take n cells)) room) where
  -- of an object its name comes after those before it
  next_object : get_or words 0 0 ≡ 1 → names_of (take (n + 1) cells) ≡ names_of (take n cells) ++ get_or words 1 0 ∷ []
  next_object tag =
      names_more cells n low ∙ ap (λ (xs : List ℕ). names_of (take n cells) ++ xs) (ap (λ (w : List ℕ). names_of (w ∷ [])) (sym is) ∙ names_object words (eq-eqb (get_or words 0 0) 1 tag))

  pub count_object : get_or words 0 0 ≡ 1 → count + 1 ≡ length (names_of (take (n + 1) cells))
  count_object tag = omega (arith, ap length (next_object tag), length-append (names_of (take n cells)) (get_or words 1 0 ∷ []))

  pub shown_object : get_or words 0 0 ≡ 1 → (new : List ℕ) → new ≡ set into count (get_or words 1 0) → new ≡ shown_in (names_of (take (n + 1) cells)) room
  shown_object tag new put =
      put ∙ (λ i. set (shown i) (counted i) (get_or words 1 0)) ∙ shown_more (names_of (take n cells)) room (get_or words 1 0) ∙ ap (λ (xs : List ℕ). shown_in xs room) (sym (next_object tag))

  -- any other cell adds none
  pub next_other : (get_or words 0 0 ≡ 1 → ⊥) → names_of (take (n + 1) cells) ≡ names_of (take n cells)
  next_other not_tag =
      names_more cells n low
      ∙ ap (λ (xs : List ℕ). names_of (take n cells) ++ xs) (ap (λ (w : List ℕ). names_of (w ∷ [])) (sym is) ∙ names_other words (by_test (cases_Bool (is_object words))))
      ∙ append-nil (names_of (take n cells))
    where
      by_test : (is_object words ≡ true) ⊎ (is_object words ≡ false) → is_object words ≡ false
      by_test (inl t) = absurd (not_tag (eqb-true (get_or words 0 0) 1 t))
      by_test (inr f) = f
