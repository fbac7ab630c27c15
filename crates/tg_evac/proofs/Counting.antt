-- No more cells are won than there are cells of from-space that are not free.
use Rattle.std.proofs.Common.{◌≡◌, ◌≢◌, ℕ, zero, suc, ◌<◌, ◌≤◌, ◌+◌, ◌-◌, ◌*◌, ◌==◌, Bool, true, false, not, cond, eqb, List, [], ◌∷◌, length, get_or, refl, sym, ap, subst, arith, ◌∙◌}
use Rattle.std.specs.List.{All, Contains, list_any, IsDistinct, count_by, flat_map}
use Rattle.std.proofs.lemmas.List.{get_or-append_right}
use Rattle.std.proofs.lemmas.List.Elements.{All-head, All-tail, All-contains, Contains-append_right}
use Rattle.std.proofs.lemmas.List.Sums.{sum_by-cons}
use Rattle.std.proofs.lemmas.Bool.Decides.{nat_tests, Decides-eqb}
use Rattle.std.proofs.lemmas.Map.Made.{length-le_from_is_member}
use Rattle.std.proofs.lemmas.Map.Views.{Contains-from_any, list_any-from_Contains}
use Rattle.std.specs.Cmp.{nat_eq_equiv}
use Rattle.tg_word.specs.declared.Place.{Place}
use Rattle.tg_block.specs.Cells.{all_are_zero}
use Rattle.tg_space.specs.Collection.{moved_cells, used_cells}
use Rattle.tg_space.specs.SpaceList.{SpaceList, BlockList, IsSpace, IsSpaceList, HasCell, cell_at, flat_of, cells_of, blocks_before}
use Rattle.tg_space.specs.Targets.{from_space}
use Rattle.tg_space.specs.declared.kind.Kind.{Kind}
use Rattle.tg_space.specs.declared.kind.Kind.TheVariants.{Full, Nursery}
use Rattle.tg_space.proofs.Flat.{get_or-flat_of, flat_inside, length-cells_of, length-blocks, before_mono}

-- the cell with a number is one of from-space that isn't free
pub record IsUsed (kind : Kind) (h : SpaceList) (c : ℕ) : Type 0 where
  pub place : Place
  pub held : HasCell h place
  pub moved : from_space kind place.space ≡ true
  pub at : flat_of h place ≡ c
  pub used : 0 < get_or (cell_at h place) 0 0

-- ---- the numbers of the cells that are not free

is_used : List ℕ → Bool
is_used words = not (all_are_zero words)

numbers : ℕ → List (List ℕ) → List ℕ
numbers n [] = []
numbers n (words ∷ rest) = cond (is_used words) (n ∷ numbers (suc n) rest) (numbers (suc n) rest)

length_numbers : (n : ℕ) (rest : List (List ℕ)) → length (numbers n rest) ≡ count_by is_used rest
unfolding numbers
length_numbers n [] = refl
length_numbers n (words ∷ rest) =
    let cons = sum_by-cons (λ (x : List ℕ). cond (is_used x) 1 0) words rest in
    counted (is_used words) (numbers (suc n) rest) ∙ omega (arith, length_numbers (suc n) rest)
  where
    counted : (b : Bool) (ns : List ℕ) → length (cond b (n ∷ ns) ns) ≡ cond b 1 0 + length ns
    counted true ns = omega arith
    counted false ns = omega arith

is_used_true : (words : List ℕ) → 0 < get_or words 0 0 → is_used words ≡ true
unfolding is_used
is_used_true [] used = absurd (omega arith)
is_used_true (w ∷ words) used =
    let some : (w == 0) ≡ false = grind (arith, nat_tests) in
    rw some refl

in_numbers : (n k : ℕ) (rest : List (List ℕ)) → k < length rest → 0 < get_or (get_or rest k []) 0 0 → Contains (numbers n rest) (n + k)
unfolding numbers
in_numbers n k [] low used = absurd (omega arith)
in_numbers n zero (words ∷ rest) low used =
    let t = is_used_true words used in
    let e : n ≡ n + zero = omega arith in
    let here : Contains (n ∷ numbers (suc n) rest) n = (0, omega arith, refl) in
    rw t (subst (λ x. Contains (n ∷ numbers (suc n) rest) x) e here)
in_numbers n (suc k) (words ∷ rest) low used =
    let later : Contains (numbers (suc n) rest) (suc n + k) = in_numbers (suc n) k rest (omega arith) used in
    let e : suc n + k ≡ n + suc k = omega arith in
    let there : Contains (numbers (suc n) rest) (n + suc k) = subst (λ x. Contains (numbers (suc n) rest) x) e later in
    by_test (is_used words) there
  where
    by_test : (b : Bool) → Contains (numbers (suc n) rest) (n + suc k) → Contains (cond b (n ∷ numbers (suc n) rest) (numbers (suc n) rest)) (n + suc k)
    by_test true there = Contains-append_right (n ∷ []) (numbers (suc n) rest) (n + suc k) there
    by_test false there = there

used_is : (kind : Kind) (h : SpaceList) → count_by is_used (moved_cells kind h) ≡ used_cells kind h
unfolding is_used
used_is kind h = refl

-- ---- where the numbers of from-space begin

-- how many cells are before those of from-space
first_moved : Kind → SpaceList → ℕ
first_moved Full h = 0
first_moved Nursery [] = 0
first_moved Nursery (old ∷ rest) = 64 * length old

-- a cell of from-space is one of the list, by its number after the first
module _ (h : SpaceList) (is : All IsSpace h) where
  in_moved : (kind : Kind) (c : ℕ) → IsUsed kind h c → (k : ℕ) × (k < length (moved_cells kind h)) × (0 < get_or (get_or (moved_cells kind h) k []) 0 0) × (first_moved kind h + k ≡ c)
  unfolding first_moved
  in_moved Full c u = (
    c,
    (let low = flat_inside h is u.place u.held in let at = u.at in omega arith),
    subst (λ (n : ℕ). 0 < get_or (get_or (cells_of h) n []) 0 0) u.at (rw (get_or-flat_of h is u.place u.held) u.used),
    omega arith,
  )
  in_moved Nursery c u = by_list h is u
    where
      by_list : (g : SpaceList) → All IsSpace g → IsUsed Nursery g c → (k : ℕ) × (k < length (moved_cells Nursery g)) × (0 < get_or (get_or (moved_cells Nursery g) k []) 0 0) × (first_moved Nursery g + k ≡ c)
      by_list [] whole v = absurd (let low = v.held.space in omega arith)
      by_list (old ∷ rest) whole v =
          let young : v.place.space ≢ 0 = λ z. absurd (let m : from_space Nursery 0 ≡ true = subst (λ (s : ℕ). from_space Nursery s ≡ true) z v.moved in cc) in
          let first : blocks_before (old ∷ rest) 1 ≤ blocks_before (old ∷ rest) v.place.space = before_mono (old ∷ rest) 1 v.place.space (omega arith) in
          let one : blocks_before (old ∷ rest) 1 ≡ length old = sum_by-cons (λ (x : BlockList). length x) old [] ∙ omega arith in
          let behind : 64 * length old ≤ c = let at = v.at in omega arith in
          let low = flat_inside (old ∷ rest) whole v.place v.held in
          let split : length (cells_of (old ∷ rest)) ≡ 64 * length old + length (cells_of rest) =
          omega (arith, length-cells_of (old ∷ rest) whole, length-cells_of rest (All-tail IsSpace old rest whole), sum_by-cons (λ (x : BlockList). length x) old rest) in
          let shape = (All-head IsSpace old rest whole).1 in
          let there : get_or (cells_of (old ∷ rest)) c [] ≡ get_or (cells_of rest) (c - 64 * length old) [] =
          get_or-append_right (flat_map (λ (b : List (List ℕ)). b) old) (cells_of rest) (64 * length old) c [] (length-blocks old shape) behind in
          let words : get_or (cells_of (old ∷ rest)) c [] ≡ cell_at (old ∷ rest) v.place = ap (λ (n : ℕ). get_or (cells_of (old ∷ rest)) n []) (sym v.at) ∙ get_or-flat_of (old ∷ rest) whole v.place v.held in (
            c - 64 * length old,
            (let at = v.at in omega arith),
            subst (λ (ws : List ℕ). 0 < get_or ws 0 0) (sym words ∙ there) v.used,
            omega arith,
          )

-- cells that differ and aren't free are no more than there are of these
pub won_few : (kind : Kind) (h : SpaceList) → IsSpaceList h → (won : List ℕ) → IsDistinct eqb won → All (IsUsed kind h) won → length won ≤ used_cells kind h
won_few kind h is won distinct used =
    let ys = numbers (first_moved kind h) (moved_cells kind h) in
    let held : (q : ℕ) → list_any (eqb q) won ≡ true → list_any (eqb q) ys ≡ true = λ q any.
    let c : Contains won q = Contains-from_any {eq = eqb} (λ x y t. (Decides-eqb x y).0 t) q won any in
    let found = in_moved h is.spaces kind q (All-contains (IsUsed kind h) won q used c) in
    let y : Contains ys q = subst (λ x. Contains ys x) found.3 (in_numbers (first_moved kind h) found.0 (moved_cells kind h) found.1 found.2) in
    list_any-from_Contains {eq = eqb} nat_eq_equiv q ys y in
    let le = length-le_from_is_member {eq = eqb} nat_eq_equiv won ys distinct held in
    omega (arith, le, length_numbers (first_moved kind h) (moved_cells kind h), used_is kind h)
