-- Facts on the claims of a collection.
use Rattle.std.proofs.Common.{◌≡◌, ◌≢◌, ℕ, ◌<◌, ◌≤◌, ◌+◌, ◌-◌, ◌*◌, ◌/◌, ◌^◌, ◌++◌, ◌∷◌, ◌⊎◌, ◌==◌, true, false, cond, [], List, length, get_or, set, map, refl, sym, ap, subst, arith, ◌∙◌, eqb, lit<, inl, inr, ⊎_elim}
use Rattle.std.specs.Cmp.{nat_eq_equiv}
use Rattle.std.specs.List.{All, AllPairs, Contains, IsDistinct, range_with_len}
use Rattle.std.proofs.lemmas.List.{get_or_default, get_or-set_same, get_or-set_other, length-set, get_or-map, length-map, map-append, get_or_append_left, get_or_push, length_push}
use Rattle.std.proofs.lemmas.List.Elements.{All-push, All-nil, All-head, All-tail, All-weaker, All-contains, All-from_get_or, All-get_or, Contains-append_left, Contains-get_or, Contains-push, Contains-push_cases}
use Rattle.std.proofs.lemmas.List.FromFn.{length-range_with_len, get_or-range_with_len}
use Rattle.std.proofs.lemmas.List.Sums.{count_by-le-length, length-filter, sum_by-set, sum_by_push}
use Rattle.std.proofs.lemmas.List.Quantifiers.{all_pairs_push}
use Rattle.std.proofs.lemmas.Map.Made.{IsDistinct-from_AllPairs, length-le_from_is_member}
use Rattle.std.proofs.lemmas.Map.Views.{Contains-from_any, list_any-from_Contains}
use Rattle.std.proofs.lemmas.Bool.{cases_lt, cases_eq}
use Rattle.std.proofs.lemmas.Bool.Decides.{nat_tests, Decides-eqb}
use Rattle.tg_rights.specs.RightSet.{no_rights}
use Rattle.tg_word.specs.declared.Place.{Place}
use Rattle.tg_word.specs.Word.{IsPlace, link_to, place_in}
use Rattle.tg_word.proofs.Packing.{place_in-word_at, word_at-above_zero}
use Rattle.tg_space.specs.Collection.{AreFewBlocks, copies_in, is_copy_in, new_place}
use Rattle.tg_space.specs.SpaceList.{BlockList}
use Rattle.tg_space.specs.SpaceTable.{place_in_space}
use Rattle.tg_evac.specs.Win.{Win}
use Rattle.tg_evac.specs.Claims.{Claimed, IsWonIn, HasNewPlace, IsGiven, AreDistinctWins, AreGivenInOrder, AreClaims, AreWordsOf, HasFilledRoom, cells_won, first_new, is_in, won_in, win_at, wins_at}
use Rattle.tg_evac.specs.Claimers.{AddsWins, HasPlacesOf, IsClaimLink, walked_of}
use Rattle.tg_evac.specs.Copies.{HavePlaces}
use Rattle.tg_evac.proofs.Copying.{filter_other, filter_push, map_found}

-- the place of Old or of Aged with a number
pub place_inside : (s k : ℕ) → s < 2 → k < 2 ^ 26 → IsPlace (place_in_space s k)
place_inside s k two low = record { space = omega arith; block = omega arith; cell = omega arith }

pub place_back : (s k : ℕ) → s < 2 → k < 2 ^ 26 → place_in (link_to (place_in_space s k)) ≡ place_in_space s k
place_back s k two low = place_in-word_at no_rights (place_in_space s k) (place_inside s k two low)

-- ---- the words of pairs

-- the pair of a cell that has a word
pub pair_of : (won : List Win) (forward : List ℕ) → AreWordsOf won forward → (c : ℕ) → c < length forward → get_or forward c 0 ≢ 0 → (w : Win) × Contains won w × (w.cell ≡ c) × (get_or forward c 0 ≡ w.word)
pair_of won forward are c low some =
    let found = are.every c low some in
    (found.0, found.1, found.2, ap (λ (n : ℕ). get_or forward n 0) (sym found.2) ∙ (All-contains (IsWonIn forward) won found.0 are.stand found.1).word)

-- what holds of 0 and of the words of pairs holds of each forwarding word
pub each_word : (P : ℕ → Type 0) → P 0 → (won : List Win) (forward : List ℕ) → AreWordsOf won forward → All (λ w. P w.word) won → All P forward
each_word P none won forward are all = All-from_get_or P forward 0 (λ n low. ⊎_elim
    (λ (zero : get_or forward n 0 ≡ 0). subst P (sym zero) none)
    (λ (some : get_or forward n 0 ≢ 0). let found = pair_of won forward are n low some in subst P (sym found.3) (All-contains (λ (w : Win). P w.word) won found.0 all found.1))
    (cases_eq (get_or forward n 0) 0))

-- so each has a place in range
pub have_places : (kept : ℕ) (won : List Win) (forward : List ℕ) → AreWordsOf won forward → All (HasNewPlace kept) won → HavePlaces forward
have_places kept won forward are places =
    each_word (λ (word : ℕ). IsPlace (place_in word)) (record { space = lit< tt; block = lit< tt; cell = lit< tt }) won forward are
    (All-weaker (HasNewPlace kept) (λ (w : Win). IsPlace (place_in w.word)) (λ w has. has.place) won places)

-- ---- the pairs of a space

pub is_in_one : (space : ℕ) (w : Win) → (place_in w.word).space ≡ space → is_in space w ≡ true
is_in_one space w here = grind (arith, nat_tests)

is_in_other : (space : ℕ) (w : Win) → (place_in w.word).space ≢ space → is_in space w ≡ false
is_in_other space w other = grind (arith, nat_tests)

pub in_push : (space : ℕ) (won : List Win) (w : Win) → (place_in w.word).space ≡ space → won_in space (won ++ w ∷ []) ≡ won_in space won ++ w ∷ []
in_push space won w here = filter_push (is_in space) won w (is_in_one space w here)

pub in_other : (space : ℕ) (won : List Win) (w : Win) → (place_in w.word).space ≢ space → won_in space (won ++ w ∷ []) ≡ won_in space won
in_other space won w other = filter_other (is_in space) won w (is_in_other space w other)

-- where none is in it
pub in_none : (space : ℕ) (won : List Win) → All (λ (w : Win). (place_in w.word).space ≢ space) won → won_in space won ≡ []
in_none space [] all = refl
in_none space (w ∷ won) all =
    let other = All-head (λ (v : Win). (place_in v.word).space ≢ space) w won all in
    rw (is_in_other space w other) (in_none space won (All-tail (λ (v : Win). (place_in v.word).space ≢ space) w won all))

-- one more pair, with the next number
order_push : (space first : ℕ) (won : List Win) (w : Win) → AreGivenInOrder space first won → w.word ≡ link_to (place_in_space space (first + length won)) → AreGivenInOrder space first (won ++ w ∷ [])
order_push space first won w order is k low =
    let long = length_push won w in
    ⊎_elim
    (λ (early : k < length won). ap (λ (v : Win). v.word) (get_or_append_left won (w ∷ []) (win_at [] 0) k early) ∙ order k early)
    (λ (past : length won ≤ k).
    let at : length won ≡ k = omega arith in
    ap (λ (v : Win). v.word) (get_or_push won w (win_at [] 0) k at) ∙ is ∙ ap (λ (n : ℕ). link_to (place_in_space space (first + n))) at)
    (cases_lt k (length won))

-- a word is set that was 0
copies_set : (space : ℕ) (forward : List ℕ) (i word : ℕ) → i < length forward → get_or forward i 0 ≡ 0 → copies_in (set forward i word) space ≡ copies_in forward space + cond (is_copy_in space word) 1 0
copies_set space forward i word low none =
    let sum = sum_by-set (λ (x : ℕ). cond (is_copy_in space x) 1 0) forward i word 0 low in
    let zero : ◌≡◌ {A = ℕ} (cond (is_copy_in space (get_or forward i 0)) 1 0) 0 = rw none refl in
    omega (arith, sum, zero)

-- numbers between two bounds that differ are no more than there are
pub few_numbers : (low high : ℕ) (ns : List ℕ) → IsDistinct eqb ns → ((n : ℕ) → Contains ns n → (low ≤ n) × (n < high)) → length ns ≤ high - low
few_numbers low high ns distinct between =
    let all = range_with_len low (high - low) in
    let long : length all ≡ high - low = length-range_with_len low (high - low) in
    let few = length-le_from_is_member {eq = eqb} nat_eq_equiv ns all distinct (λ q any.
    let is = between q (Contains-from_any {eq = eqb} (λ x y t. (Decides-eqb x y).0 t) q ns any) in
    let at : low + (q - low) ≡ q = omega arith in
    list_any-from_Contains {eq = eqb} nat_eq_equiv q all (q - low, omega arith, get_or-range_with_len low (high - low) (q - low) q (omega arith) ∙ at)) in
    omega arith

-- what maps to different numbers
pub distinct_map : {A : Type 0} (f : A → ℕ) (xs : List A) (default : A) → AllPairs (λ x y. f x ≢ f y) xs → IsDistinct eqb (map f xs)
distinct_map f xs default differ = IsDistinct-from_AllPairs {eq = eqb} Decides-eqb (map f xs) (λ i j d lt low e.
    let long = length-map xs f in
    differ i j default lt (omega arith) (sym (get_or-map f xs i default d (omega arith)) ∙ e ∙ get_or-map f xs j default d (omega arith)))

-- pairs that are apart by their numbers
pub apart_of : (won : List Win) → ((i j : ℕ) → i < length won → j < length won → (win_at won i).word ≡ (win_at won j).word → (win_at won i).cell ≡ (win_at won j).cell) → AreDistinctWins won
apart_of won apart v w hv hw e =
    let at = λ (u : Win) (held : Contains won u). get_or_default won held.0 (win_at [] 0) u held.1 ∙ held.2 in
    ap (λ (u : Win). u.cell) (sym (at v hv)) ∙ apart hv.0 hw.0 hv.1 hw.1 (ap (λ (u : Win). u.word) (at v hv) ∙ e ∙ ap (λ (u : Win). u.word) (sym (at w hw))) ∙ ap (λ (u : Win). u.cell) (at w hw)

-- ---- what the rule says of each pair

module _ (c : Claimed) (are : AreClaims c) where
  pub stands : (w : Win) → Contains c.won w → IsWonIn c.forward w
  stands w held = All-contains (IsWonIn c.forward) c.won w are.words.stand held

  pub placed : (w : Win) → Contains c.won w → HasNewPlace c.plan.kept w
  placed w held = All-contains (HasNewPlace c.plan.kept) c.won w are.places held

  -- each forwarding word that isn't 0 is the link to its place
  pub forward_links : (n : ℕ) → n < length c.forward → get_or c.forward n 0 ≢ 0 → IsClaimLink (get_or c.forward n 0)
  forward_links n low some = let found = pair_of c.won c.forward are.words n low some in subst (λ (w : ℕ). IsClaimLink w) (sym found.3) (placed found.0 found.1).link

  -- no more cells are won than are after the first, where none of these is won
  pub won_behind : (first : ℕ) → All (λ (w : Win). first ≤ w.cell) c.won → length c.won ≤ length c.forward - first
  won_behind first behind =
      let few = few_numbers first (length c.forward) (cells_won c.won) (distinct_map (λ (w : Win). w.cell) c.won (win_at [] 0) are.distinct) (λ q held.
      let found = map_found (λ (w : Win). w.cell) c.won q held in
      subst (λ (n : ℕ). (first ≤ n) × (n < length c.forward)) found.2 (All-contains (λ (w : Win). first ≤ w.cell) c.won found.0 behind found.1, (stands found.0 found.1).cell)) in
      omega (arith, length-map c.won (λ (w : Win). w.cell))

-- how many pairs a space has
module _ (c : Claimed) (are : AreClaims c) where
  pub in_room : (space : ℕ) → space < 2 → length (won_in space c.won) ≤ 2 ^ 26
  in_room space two = let ends = are.ends space two in let few = are.few space in omega arith

  -- blocks that hold a copy of each, and have no block to spare, are within the limit
  pub few_blocks : (space_blocks kept aged_free old_free : ℕ) → c.plan.room ≡ 64 * space_blocks → c.plan.kept ≡ kept → (aged old : BlockList) (notes : List Place) →
      64 * length aged ≡ length (won_in 1 c.won) + aged_free → aged_free < 64 → 64 * length old ≡ length (won_in 0 c.won) + old_free → old_free < 64 → AreFewBlocks space_blocks kept 0 (record { forward = c.forward; aged = aged; old = old; notes = notes })
  few_blocks space_blocks kept aged_free old_free room kept_is aged old notes in_aged aged_few in_old old_few =
      let aged_ends = are.ends 1 (lit< tt) in let old_ends = are.ends 0 (lit< tt) in
      let aged_copies = are.copies 1 (lit< tt) in let old_copies = are.copies 0 (lit< tt) in
      let aged_within = are.within 1 (lit< tt) in let old_within = are.within 0 (lit< tt) in
      record {
        aged_within = omega arith;
        old_within = omega arith;
        aged_needed = omega arith;
        old_needed = omega arith;
      }

-- the table has the places of the pairs
pub has_places : (c : Claimed) → AreClaims c → HasPlacesOf c.won (new_place c.forward)
has_places c are = All-weaker (IsWonIn c.forward) (λ (w : Win). new_place c.forward w.cell ≡ place_in w.word) (λ w st. ap place_in st.word) c.won are.words.stand

-- where a space has no room for one more, all the room is won
pub full_at : (c : Claimed) → AreClaims c → (space : ℕ) → space < 2 → c.plan.room ≤ get_or c.next space 0 → HasFilledRoom c
full_at c are space two past = record { all = all; distinct = distinct_map (λ (w : Win). w.cell) c.won (win_at [] 0) are.distinct }
  where
    all : c.plan.room ≤ 64 * c.plan.kept + length (cells_won c.won)
    all =
        let ends = are.ends space two in
        let first : first_new c.plan.kept space ≤ 64 * c.plan.kept = ⊎_elim (λ (e : space ≡ 0). let is = ap (first_new c.plan.kept) e in omega arith)
        (λ (ne : space ≢ 0). let e : space ≡ 1 = omega arith in let is = ap (first_new c.plan.kept) e in omega arith) (cases_eq space 0) in
        omega (arith, length-map c.won (λ (w : Win). w.cell), count_by-le-length (is_in space) c.won, length-filter (is_in space) c.won)

-- ---- the pairs of cells, each with the word that it has

module _ (forward cells : List ℕ) where
  pub won_at : (k : ℕ) → k < length cells → win_at (wins_at forward cells) k ≡ record { cell = get_or cells k 0; word = get_or forward (get_or cells k 0) 0 }
  won_at k low = get_or-map (λ (n : ℕ). let w : Win = record { cell = n; word = get_or forward n 0 } in w) cells k 0 (win_at [] 0) low

  pub won_length : length (wins_at forward cells) ≡ length cells
  won_length = length-map cells (λ (n : ℕ). let w : Win = record { cell = n; word = get_or forward n 0 } in w)

  -- a cell that has no word is none of them
  pub won_others : All (IsWonIn forward) (wins_at forward cells) → (cell : ℕ) → get_or forward cell 0 ≡ 0 → All (λ (n : ℕ). n ≢ cell) cells
  won_others stand cell none = All-from_get_or (λ (n : ℕ). n ≢ cell) cells 0 (λ (k : ℕ) (low : k < length cells) (e : get_or cells k 0 ≡ cell).
      let inside : k < length (wins_at forward cells) = (let long = won_length in omega arith) in
      let st = All-get_or (IsWonIn forward) (wins_at forward cells) k (win_at [] 0) inside stand in
      (subst (λ (w : Win). IsWonIn forward w) (won_at k low) st).some (ap (λ (n : ℕ). get_or forward n 0) e ∙ none))

-- the words of other cells stay
wins_still : (forward cells : List ℕ) (cell word : ℕ) → All (λ (n : ℕ). n ≢ cell) cells → wins_at (set forward cell word) cells ≡ wins_at forward cells
wins_still forward [] cell word others = refl
wins_still forward (n ∷ cells) cell word others =
    let same : get_or (set forward cell word) n 0 ≡ get_or forward n 0 = get_or-set_other forward cell n word 0 (All-head (λ (m : ℕ). m ≢ cell) n cells others) in
    rw same (ap (λ (ws : List Win). let w : Win = record { cell = n; word = get_or forward n 0 } in w ∷ ws) (wins_still forward cells cell word (All-tail (λ (m : ℕ). m ≢ cell) n cells others)))

-- one more cell gets its word
pub wins_more : (forward cells : List ℕ) (w : Win) → w.cell < length forward → All (λ (n : ℕ). n ≢ w.cell) cells → wins_at (set forward w.cell w.word) (cells ++ w.cell ∷ []) ≡ wins_at forward cells ++ w ∷ []
wins_more forward cells w low others =
    let f = λ (n : ℕ). let v : Win = record { cell = n; word = get_or (set forward w.cell w.word) n 0 } in v in
    let same : get_or (set forward w.cell w.word) w.cell 0 ≡ w.word = get_or-set_same forward w.cell w.word 0 low in
    map-append f cells (w.cell ∷ [])
    ∙ ap (λ (ws : List Win). ws ++ f w.cell ∷ []) (wins_still forward cells w.cell w.word others)
    ∙ ap (λ (m : ℕ). let v : Win = record { cell = w.cell; word = m } in wins_at forward cells ++ v ∷ []) same

-- ---- one more pair

module _ (c : Claimed) (are : AreClaims c) (w : Win) (space number : ℕ) (two : space < 2) (next : number ≡ get_or c.next space 0)
    (inside : w.cell < length c.forward) (none : get_or c.forward w.cell 0 ≡ 0) (room : number < c.plan.room) (is : w.word ≡ link_to (place_in_space space number)) where
  small : number < 2 ^ 26
  small = let few = are.room in omega arith

  at : place_in w.word ≡ place_in_space space number
  at = ap place_in is ∙ place_back space number two small

  to_space : (place_in w.word).space ≡ space
  to_space = ap (λ (p : Place). p.space) at

  some : w.word ≢ 0
  some e = let above : 0 < link_to (place_in_space space number) = word_at-above_zero no_rights (place_in_space space number) (place_inside space number two small) in omega arith

  still_stands : (v : Win) → IsWonIn c.forward v → IsWonIn (set c.forward w.cell w.word) v
  still_stands v st =
      let other : v.cell ≢ w.cell = λ e. st.some (sym st.word ∙ ap (λ (n : ℕ). get_or c.forward n 0) e ∙ none) in record {
        cell = omega (arith, length-set c.forward w.cell w.word, st.cell);
        word = get_or-set_other c.forward w.cell v.cell w.word 0 other ∙ st.word;
        some = st.some;
      }

  new_stands : IsWonIn (set c.forward w.cell w.word) w
  new_stands = record {
    cell = omega (arith, length-set c.forward w.cell w.word);
    word = get_or-set_same c.forward w.cell w.word 0 inside;
    some = some;
  }

  every_more : (n : ℕ) → n < length (set c.forward w.cell w.word) → get_or (set c.forward w.cell w.word) n 0 ≢ 0 → (v : Win) × Contains (c.won ++ w ∷ []) v × (v.cell ≡ n)
  every_more n low ne = ⊎_elim
      (λ (e : n ≡ w.cell). (w, Contains-push c.won w, sym e))
      (λ (other : n ≢ w.cell).
      let read : get_or (set c.forward w.cell w.word) n 0 ≡ get_or c.forward n 0 = get_or-set_other c.forward w.cell n w.word 0 other in
      let old = are.words.every n (omega (arith, length-set c.forward w.cell w.word)) (λ z. ne (read ∙ z)) in
      (old.0, Contains-append_left c.won (w ∷ []) old.0 old.1, old.2))
      (cases_eq n w.cell)

  -- ---- how many there are then

  abbrev one : ℕ → ℕ
  one s = cond (is_in s w) 1 0

  one_is : (s : ℕ) → ((one s ≡ 1) × (s ≡ space) × (get_or c.next s 0 ≡ number)) ⊎ ((one s ≡ 0) × (s ≢ space))
  one_is s = ⊎_elim
      (λ (e : s ≡ space). inl (rw (is_in_one s w (to_space ∙ sym e)) refl, e, ap (λ (k : ℕ). get_or c.next k 0) e ∙ sym next))
      (λ (other : s ≢ space). inr (rw (is_in_other s w (λ here. other (sym here ∙ to_space))) refl, other))
      (cases_eq s space)

  grown : (s : ℕ) → get_or (set c.next space (number + 1)) s 0 ≡ get_or c.next s 0 + one s
  grown s = ⊎_elim
      (λ (y : (one s ≡ 1) × (s ≡ space) × (get_or c.next s 0 ≡ number)).
      let now = ap (λ (k : ℕ). get_or (set c.next space (number + 1)) k 0) y.1 ∙ get_or-set_same c.next space (number + 1) 0 (let long = are.two in omega arith) in omega arith)
      (λ (n : (one s ≡ 0) × (s ≢ space)). let same = get_or-set_other c.next space s (number + 1) 0 n.1 in omega arith)
      (one_is s)

  counted : (s : ℕ) → length (won_in s (c.won ++ w ∷ [])) ≡ length (won_in s c.won) + one s
  counted s = length-filter (is_in s) (c.won ++ w ∷ []) ∙ sum_by_push (λ (v : Win). cond (is_in s v) 1 0) c.won w ∙ ap (λ (n : ℕ). n + one s) (sym (length-filter (is_in s) c.won))

  few_more : (s : ℕ) → get_or (set c.next space (number + 1)) s 0 ≤ 2 ^ 26
  few_more s =
      let now = grown s in let few = are.few s in let most = are.room in
      ⊎_elim (λ (y : (one s ≡ 1) × (s ≡ space) × (get_or c.next s 0 ≡ number)). omega arith) (λ (n : (one s ≡ 0) × (s ≢ space)). omega arith) (one_is s)

  within_more : (s : ℕ) → s < 2 → get_or (set c.next space (number + 1)) s 0 - first_new c.plan.kept s ≤ c.plan.room - first_new c.plan.kept s
  within_more s inside =
      let now = grown s in let before = are.within s inside in
      ⊎_elim (λ (y : (one s ≡ 1) × (s ≡ space) × (get_or c.next s 0 ≡ number)). omega arith) (λ (n : (one s ≡ 0) × (s ≢ space)). omega arith) (one_is s)

  copies_more : (s : ℕ) → s < 2 → copies_in (set c.forward w.cell w.word) s ≡ length (won_in s (c.won ++ w ∷ []))
  copies_more s low =
      let ne = some in
      let is_some : (w.word == 0) ≡ false = grind (arith, nat_tests) in
      let same : ◌≡◌ {A = ℕ} (cond (is_copy_in s w.word) 1 0) (one s) = rw is_some refl in
      omega (arith, are.copies s low, copies_set s c.forward w.cell w.word inside none, counted s)

  -- ---- the place is new

  new_place_is : HasNewPlace c.plan.kept w
  new_place_is = record {
    place = subst (λ (p : Place). IsPlace p) (sym at) (place_inside space number two small);
    link = is ∙ ap link_to (sym at);
    two = subst (λ (p : Place). p.space < 2) (sym at) two;
    behind = λ in_old.
        let block : (place_in w.word).block ≡ number / 64 = ap (λ (p : Place). p.block) at in
        let first : first_new c.plan.kept space ≡ 64 * c.plan.kept = ap (first_new c.plan.kept) (sym to_space ∙ in_old) in
        omega (arith, are.ends space two);
  }

  given_more : All (λ (v : Win). IsGiven (set c.next space (number + 1)) (place_in v.word)) (c.won ++ w ∷ [])
  given_more = All-push (λ (v : Win). IsGiven (set c.next space (number + 1)) (place_in v.word)) c.won w
      (All-weaker (λ (v : Win). IsGiven c.next (place_in v.word)) (λ (v : Win). IsGiven (set c.next space (number + 1)) (place_in v.word)) (λ v low. let now = grown (place_in v.word).space in omega arith) c.won are.given)
      (subst (λ (p : Place). IsGiven (set c.next space (number + 1)) p) (sym at) (let now = get_or-set_same c.next space (number + 1) 0 (let long = are.two in omega arith) in omega arith))

  fresh : (v : Win) → Contains c.won v → v.word ≢ w.word
  fresh v held e =
      let low : IsGiven c.next (place_in_space space number) = subst (λ (p : Place). IsGiven c.next p) (ap place_in e ∙ at) (All-contains (λ (u : Win). IsGiven c.next (place_in u.word)) c.won v are.given held) in
      omega arith

  apart_more : AreDistinctWins (c.won ++ w ∷ [])
  apart_more u v hu hv e = ⊎_elim
      (λ (old : Contains c.won u). ⊎_elim (λ (too : Contains c.won v). apart_of c.won are.apart u v old too e)
      (λ (last : w ≡ v). absurd (fresh u old (e ∙ ap (λ (x : Win). x.word) (sym last)))) (Contains-push_cases c.won w v hv))
      (λ (last : w ≡ u). ⊎_elim (λ (old : Contains c.won v). absurd (fresh v old (sym e ∙ ap (λ (x : Win). x.word) (sym last))))
      (λ (too : w ≡ v). ap (λ (x : Win). x.cell) (sym last ∙ too)) (Contains-push_cases c.won w v hv))
      (Contains-push_cases c.won w u hu)

  in_order_more : (s : ℕ) → s < 2 → AreGivenInOrder s (first_new c.plan.kept s) (won_in s (c.won ++ w ∷ []))
  in_order_more s inside = ⊎_elim
      (λ (here : (place_in w.word).space ≡ s).
      let same : space ≡ s = sym to_space ∙ here in
      let number_is : number ≡ first_new c.plan.kept space + length (won_in space c.won) = next ∙ sym (are.ends space two) in
      let word : w.word ≡ link_to (place_in_space s (first_new c.plan.kept s + length (won_in s c.won))) =
      is ∙ ap (λ (n : ℕ). link_to (place_in_space space n)) number_is ∙ ap (λ (t : ℕ). link_to (place_in_space t (first_new c.plan.kept t + length (won_in t c.won)))) same in
      subst (λ (ws : List Win). AreGivenInOrder s (first_new c.plan.kept s) ws) (sym (in_push s c.won w here)) (order_push s (first_new c.plan.kept s) (won_in s c.won) w (are.in_order s inside) word))
      (λ (other : (place_in w.word).space ≢ s).
      subst (λ (ws : List Win). AreGivenInOrder s (first_new c.plan.kept s) ws) (sym (in_other s c.won w other)) (are.in_order s inside))
      (cases_eq (place_in w.word).space s)

  pub claims_more : AreClaims (record { plan = c.plan; forward = set c.forward w.cell w.word; won = c.won ++ w ∷ []; next = set c.next space (number + 1) })
  claims_more = record {
    words = record { stand = All-push (IsWonIn (set c.forward w.cell w.word)) c.won w (All-weaker (IsWonIn c.forward) (IsWonIn (set c.forward w.cell w.word)) still_stands c.won are.words.stand) new_stands; every = every_more };
    places = All-push (HasNewPlace c.plan.kept) c.won w are.places new_place_is;
    given = given_more;
    apart = λ i j low high. apart_more (win_at (c.won ++ w ∷ []) i) (win_at (c.won ++ w ∷ []) j) (Contains-get_or (c.won ++ w ∷ []) i (win_at [] 0) low) (Contains-get_or (c.won ++ w ∷ []) j (win_at [] 0) high);
    distinct = all_pairs_push (λ (u v : Win). u.cell ≢ v.cell) c.won w are.distinct (λ k d low e.
        let st = stands c are (get_or c.won k d) (Contains-get_or c.won k d low) in
        st.some (sym st.word ∙ ap (λ (n : ℕ). get_or c.forward n 0) e ∙ none));
    two = length-set c.next space (number + 1) ∙ are.two;
    few = few_more;
    room = are.room;
    in_order = in_order_more;
    ends = λ s inside. omega (arith, are.ends s inside, grown s, counted s);
    copies = copies_more;
    within = within_more;
  }

  pub adds_one : (reason : Win → Type 0) → reason w → AddsWins reason (walked_of c) (walked_of (record { plan = c.plan; forward = set c.forward w.cell w.word; won = c.won ++ w ∷ []; next = set c.next space (number + 1) }))
  adds_one reason r = record {
    added = w ∷ [];
    is = refl;
    reasons = All-push reason [] w (All-nil reason) r;
    still = λ n held. subst (λ (ns : List ℕ). Contains ns n) (sym (map-append (λ (v : Win). v.cell) c.won (w ∷ []))) (Contains-append_left (cells_won c.won) (w.cell ∷ []) n held);
    same_kind = refl;
    same_kept = refl;
    same_room = refl;
    as_many = length-set c.forward w.cell w.word;
    same_fixed = refl;
  }

-- the k-th pair of the claims, by the cell that is there in the list of the cells
pub record PairAt (v : Claimed) (k cell : ℕ) : Type 0 where
  pub is : cell ≡ (win_at v.won k).cell
  pub inside : cell < length v.forward
  pub late : 64 * v.plan.kept ≤ cell
  pub word : get_or v.forward cell 0 ≡ (win_at v.won k).word
  pub two : (place_in (win_at v.won k).word).space < 2

pub pair_at : (v now : Claimed) (cells : List ℕ) (k cell : ℕ) → v ≡ now → AreClaims v → All (λ (w : Win). 64 * v.plan.kept ≤ w.cell) v.won → v.won ≡ wins_at v.forward cells → k < length now.won → cell ≡ get_or cells k cell → PairAt v k cell
pair_at v now cells k cell same are late won inside read =
    let low : k < length v.won = subst (λ (x : Claimed). k < length x.won) (sym same) inside in
    let under : k < length cells = omega (arith, won_length v.forward cells, ap (λ (ws : List Win). length ws) won) in
    let at : (win_at v.won k).cell ≡ get_or cells k 0 = ap (λ (ws : List Win). (win_at ws k).cell) won ∙ ap (λ (w : Win). w.cell) (won_at v.forward cells k under) in
    let here : cell ≡ (win_at v.won k).cell = read ∙ get_or_default cells k cell 0 under ∙ sym at in
    let has : Contains v.won (win_at v.won k) = Contains-get_or v.won k (win_at [] 0) low in
    let st = stands v are (win_at v.won k) has in
    record {
      is = here;
      inside = subst (λ (n : ℕ). n < length v.forward) (sym here) st.cell;
      late = subst (λ (n : ℕ). 64 * v.plan.kept ≤ n) (sym here) (All-get_or (λ (w : Win). 64 * v.plan.kept ≤ w.cell) v.won k (win_at [] 0) low late);
      word = ap (λ (n : ℕ). get_or v.forward n 0) here ∙ st.word;
      two = (placed v are (win_at v.won k) has).two;
    }
