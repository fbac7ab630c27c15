-- A helper's own blocks of a space: one more block, one more place given away, and what changes elsewhere.
use Rattle.std.proofs.Common.{◌≡◌, ◌≢◌, ℕ, zero, suc, ◌+◌, ◌-◌, ◌*◌, ◌/◌, ◌%◌, ◌^◌, ◌<◌, ◌≤◌, ◌==◌, ◌&&◌, ◌++◌, if◌then◌else◌, not, List, [], ◌∷◌, Bool, true, false, length, get_or, map, refl, sym, ap, subst, ◌∙◌, eqb-true, eq-eqb, ⊎_elim, arith}
use Rattle.std.specs.List.{All, Contains, list_all}
use Rattle.std.proofs.lemmas.Bool.{cases_lt, cases_eq, and_parts, cond-true}
use Rattle.std.proofs.lemmas.Bool.Decides.{nat_tests}
use Rattle.std.proofs.lemmas.List.{length_push, get_or_append_left, get_or_push, get_or_default, append-nil}
use Rattle.std.proofs.lemmas.List.Folds.{list_any_at}
use Rattle.std.proofs.lemmas.List.Filters.{length-filter_both}
use Rattle.std.proofs.lemmas.List.Sums.{list_all-from_AllPass}
use Rattle.std.proofs.lemmas.List.Elements.{Contains-get_or, All-contains, All-nil, All-push, Contains-append_left, Contains-append_right, Contains-push}
use Rattle.tg_word.specs.declared.Place.{Place}
use Rattle.tg_rights.specs.RightSet.{no_rights}
use Rattle.tg_word.specs.Word.{IsPlace, link_to, place_in}
use Rattle.tg_word.proofs.Packing.{place_in-word_at}
use Rattle.tg_race.specs.declared.record.Record.{Record}
use Rattle.tg_race.specs.Conditions.{blocks_of, can_claim_block, can_use, uses}
use Rattle.tg_race.specs.Race.{has_number, has_room, owns, used_in, with_claimed_block, with_seen, with_won}
use Rattle.tg_race.specs.Seats.{Board, Seated}
use Rattle.tg_race.specs.Words.{lies_in, same_place, space_of_age}
use Rattle.tg_race.proofs.Sums.{weigh_push}
use Rattle.tg_evac.specs.Claimers.{IsClaimLink}
use Rattle.tg_parallel.specs.Parts.{HasPlaceOf, HasPlaces, cells_met}
use Rattle.tg_parallel.specs.declared.own_blocks.OwnBlocks.{OwnBlocks}
use Rattle.tg_parallel.specs.Seats.{AreFilled, AreRising, Finds, FindsNext, HoldsBlocks, IsSeatReady, KnowsNext, LeavesPlaces, OnlyBlocks, OtherStays, StayFilled, own_place, pair_at, pairs_in, cells_used}
use Rattle.tg_evac.proofs.Copying.{filter_has, filter_other, filter_push, map_has}
use Rattle.tg_parallel.proofs.Lists.{any_found}

-- ---- lists

pub all_of : {A : Type 0} (f : A → Bool) (xs : List A) → ((x : A) → Contains xs x → f x ≡ true) → list_all f xs ≡ true
all_of f xs h = list_all-from_AllPass f xs (λ k d low. h (get_or xs k d) (Contains-get_or xs k d low))

-- ---- numbers that rise

pub rising_once : (xs : List ℕ) → AreRising xs → (i j : ℕ) → i < length xs → j < length xs → get_or xs i 0 ≡ get_or xs j 0 → i ≡ j
rising_once xs rising i j hi hj e = ⊎_elim
    (λ (lt : i < j). absurd (let r = rising i j lt hj in omega arith))
    (λ (le : j ≤ i). ⊎_elim (λ (lt : j < i). absurd (let r = rising j i lt hi in omega arith)) (λ (ge : i ≤ j). omega arith) (cases_lt j i))
    (cases_lt i j)

pub rising_least : (xs : List ℕ) → AreRising xs → (i : ℕ) → i < length xs → i ≤ get_or xs i 0
rising_least xs rising zero low = omega arith
rising_least xs rising (suc i) low =
    let before = rising_least xs rising i (omega arith) in
    let r = rising i (suc i) (omega arith) low in
    omega arith

rising_push : (xs : List ℕ) (n : ℕ) → AreRising xs → All (λ b. b < n) xs → AreRising (xs ++ n ∷ [])
rising_push xs n rising all i j lt low =
    let l = length_push xs n in
    let left : get_or (xs ++ n ∷ []) i 0 ≡ get_or xs i 0 = get_or_append_left xs (n ∷ []) 0 i (omega arith) in
    ⊎_elim
    (λ (early : j < length xs).
    let right : get_or (xs ++ n ∷ []) j 0 ≡ get_or xs j 0 = get_or_append_left xs (n ∷ []) 0 j early in
    let r = rising i j lt early in omega arith)
    (λ (late : length xs ≤ j).
    let right : get_or (xs ++ n ∷ []) j 0 ≡ n = get_or_push xs n 0 j (omega arith) in
    let r : get_or xs i 0 < n = all i 0 (omega arith) in omega arith)
    (cases_lt j (length xs))

pub has_index : (xs : List ℕ) (i : ℕ) → i < length xs → has_number (get_or xs i 0) xs ≡ true
has_index xs i low = list_any_at (λ (y : ℕ). y == get_or xs i 0) xs i 0 low (eq-eqb (get_or xs i 0) (get_or xs i 0) refl)

-- ---- when a block may be claimed, and a place be given away

module _ (aged : Bool) (v : Record) (numbers : List ℕ) (used : ℕ) (filled : AreFilled aged v numbers used) where
  -- a won cell of the space has one of the places that were given away
  pub won_at : (q : ℕ × Place) → Contains v.won q → q.1.space ≡ space_of_age aged → (k : ℕ) × (k < used) × (pair_at (pairs_in (space_of_age aged) v.won) k ≡ q) × (q.1 ≡ own_place aged numbers k)
  won_at q held s =
      let there = filter_has (λ (x : ℕ × Place). x.1.space == space_of_age aged) v.won q held (eq-eqb q.1.space (space_of_age aged) s) in
      let ends = filled.ends in
      let low : there.0 < used = (let inside = there.1 in omega arith) in
      let is : pair_at (pairs_in (space_of_age aged) v.won) there.0 ≡ q = get_or_default (pairs_in (space_of_age aged) v.won) there.0 (pair_at [] 0) q there.1 ∙ there.2 in
      (there.0, low, is, sym (ap (λ (x : ℕ × Place). x.1) is) ∙ filled.order there.0 low)

  block_full : used ≡ 64 * length numbers → (i : ℕ) → i < length numbers → not (has_room (space_of_age aged) v.won (get_or numbers i 0)) ≡ true
  block_full all i low =
      let many : 64 ≤ used_in (space_of_age aged) (get_or numbers i 0) v.won = filled.many i 64 low (omega arith) (omega arith) in
      let none : has_room (space_of_age aged) v.won (get_or numbers i 0) ≡ false = grind (arith, nat_tests) in
      rw none refl

  pub may_claim : used ≡ 64 * length numbers → can_claim_block aged v ≡ true
  may_claim all = subst (λ (l : List ℕ). list_all (λ b. not (has_room (space_of_age aged) v.won b)) l ≡ true) filled.same
      (all_of (λ b. not (has_room (space_of_age aged) v.won b)) numbers (λ b held.
      let at : get_or numbers held.0 0 ≡ b = get_or_default numbers held.0 0 b held.1 ∙ held.2 in
      subst (λ (n : ℕ). not (has_room (space_of_age aged) v.won n) ≡ true) at (block_full all held.0 held.1)))

  module _ (room : used < 64 * length numbers) where
    unused : uses v (own_place aged numbers used) ≡ false
    unused = go (uses v (own_place aged numbers used)) refl
      where
        go : (b : Bool) → uses v (own_place aged numbers used) ≡ b → b ≡ false
        go false e = refl
        go true e = absurd (
            let p : Place = own_place aged numbers used in
            let found = any_found (λ (q : ℕ × Place). same_place q.1 p) v.won e in
            let s = and_parts (found.0.1.space == p.space) ((found.0.1.block == p.block) && (found.0.1.cell == p.cell)) found.2 in
            let b = and_parts (found.0.1.block == p.block) (found.0.1.cell == p.cell) s.1 in
            let at = won_at found.0 found.1 (eqb-true found.0.1.space p.space s.0) in
            let low = at.1 in
            let block : get_or numbers (at.0 / 64) 0 ≡ get_or numbers (used / 64) 0 = sym (ap (λ (x : Place). x.block) at.3) ∙ eqb-true found.0.1.block p.block b.0 in
            let cell : at.0 % 64 ≡ used % 64 = sym (ap (λ (x : Place). x.cell) at.3) ∙ eqb-true found.0.1.cell p.cell b.1 in
            let same = rising_once numbers filled.rising (at.0 / 64) (used / 64) (omega arith) (omega arith) block in
            omega arith)

    mine : owns v (own_place aged numbers used) ≡ true
    mine = by_space aged filled.same
      where
        by_space : (a : Bool) → numbers ≡ blocks_of a v → owns v (own_place a numbers used) ≡ true
        by_space true e = subst (λ (l : List ℕ). has_number (get_or numbers (used / 64) 0) l ≡ true) e (has_index numbers (used / 64) (omega arith))
        by_space false e = subst (λ (l : List ℕ). has_number (get_or numbers (used / 64) 0) l ≡ true) e (has_index numbers (used / 64) (omega arith))

    pub may_give : can_use v (own_place aged numbers used) ≡ true
    may_give = rw (mine, unused) refl

-- ---- what the blocks are then

same_won : (aged : Bool) (v : Record) (b : ℕ) → (with_claimed_block aged v b).won ≡ v.won
same_won true v b = refl
same_won false v b = refl

more_blocks : (aged : Bool) (v : Record) (b : ℕ) → blocks_of aged (with_claimed_block aged v b) ≡ blocks_of aged v ++ b ∷ []
more_blocks true v b = refl
more_blocks false v b = refl

module _ (aged : Bool) (v : Record) (numbers : List ℕ) (used n : ℕ) (filled : AreFilled aged v numbers used) (fresh : All (λ b. b < n) (blocks_of aged v)) (full : used ≡ 64 * length numbers) where
  index : (i : ℕ) → i < length numbers → get_or (numbers ++ n ∷ []) i 0 ≡ get_or numbers i 0
  index i low = get_or_append_left numbers (n ∷ []) 0 i low

  pub filled_grown : AreFilled aged (with_claimed_block aged v n) (numbers ++ n ∷ []) used
  filled_grown =
      let won = same_won aged v n in
      let long = length_push numbers n in
      record {
        same = ap (λ (l : List ℕ). l ++ n ∷ []) filled.same ∙ sym (more_blocks aged v n);
        rising = rising_push numbers n filled.rising (subst (λ (l : List ℕ). All (λ b. b < n) l) (sym filled.same) fresh);
        room = omega arith;
        close = omega arith;
        few = filled.few;
        ends = ap (λ (l : List (ℕ × Place)). length (pairs_in (space_of_age aged) l)) won ∙ filled.ends;
        order = λ k low.
            let at : get_or numbers (k / 64) 0 ≡ get_or (numbers ++ n ∷ []) (k / 64) 0 = sym (index (k / 64) (omega arith)) in
            ap (λ (l : List (ℕ × Place)). (pair_at (pairs_in (space_of_age aged) l) k).1) won ∙ filled.order k low ∙ ap (λ (b : ℕ). record { space = space_of_age aged; block = b; cell = k % 64 }) at;
        many = λ i m low few le. ⊎_elim
            (λ (early : i < length numbers). subst (λ (b : ℕ). m ≤ used_in (space_of_age aged) b (with_claimed_block aged v n).won) (sym (index i early))
            (subst (λ (l : List (ℕ × Place)). m ≤ used_in (space_of_age aged) (get_or numbers i 0) l) (sym won) (filled.many i m early few le)))
            (λ (late : length numbers ≤ i). omega arith)
            (cases_lt i (length numbers));
      }

-- ---- one more win

lies : (s b : ℕ) (p : Place) → p.space ≡ s → p.block ≡ b → lies_in s b p ≡ true
lies s b p hs hb = λ i. eq-eqb p.space s hs i && eq-eqb b p.block (sym hb) i

used_more : (s b : ℕ) (won : List (ℕ × Place)) (q : ℕ × Place) → used_in s b won ≤ used_in s b (won ++ q ∷ [])
used_more s b won q = let m = weigh_push (λ (x : ℕ × Place). if lies_in s b x.1 then 1 else 0) won q in omega arith

used_one_more : (s b : ℕ) (won : List (ℕ × Place)) (q : ℕ × Place) → q.1.space ≡ s → q.1.block ≡ b → used_in s b won + 1 ≡ used_in s b (won ++ q ∷ [])
used_one_more s b won q hs hb =
    let one : ◌≡◌ {A = ℕ} (if lies_in s b q.1 then 1 else 0) 1 = cond-true {A = ℕ} (lies_in s b q.1) 1 0 (lies s b q.1 hs hb) in
    let push : used_in s b (won ++ q ∷ []) ≡ used_in s b won + (if lies_in s b q.1 then 1 else 0) = weigh_push (λ (x : ℕ × Place). if lies_in s b x.1 then 1 else 0) won q in
    omega (arith, push, one)

pairs_push : (s : ℕ) (won : List (ℕ × Place)) (q : ℕ × Place) → q.1.space ≡ s → pairs_in s (won ++ q ∷ []) ≡ pairs_in s won ++ q ∷ []
pairs_push s won q here = filter_push (λ (x : ℕ × Place). x.1.space == s) won q (eq-eqb q.1.space s here)

pairs_other : (s : ℕ) (won : List (ℕ × Place)) (q : ℕ × Place) → q.1.space ≢ s → pairs_in s (won ++ q ∷ []) ≡ pairs_in s won
pairs_other s won q other =
    let t : (q.1.space == s) ≡ false = grind (arith, nat_tests) in
    filter_other (λ (x : ℕ × Place). x.1.space == s) won q t

other_space : (aged : Bool) → space_of_age aged ≢ space_of_age (not aged)
other_space true e = absurd (omega arith)
other_space false e = absurd (omega arith)

-- a win in the other space
pub other_won : (aged : Bool) (v : Record) (q : ℕ × Place) → q.1.space ≡ space_of_age aged → OtherStays aged v (with_won v q)
other_won aged v q s numbers used filled =
    let apart : q.1.space ≢ space_of_age (not aged) = λ e. other_space aged (sym s ∙ e) in
    let same = pairs_other (space_of_age (not aged)) v.won q apart in
    record {
      same = filled.same;
      rising = filled.rising;
      room = filled.room;
      close = filled.close;
      few = filled.few;
      ends = ap length same ∙ filled.ends;
      order = λ k low. ap (λ (l : List (ℕ × Place)). (pair_at l k).1) same ∙ filled.order k low;
      many = λ i n low few le. (let before = filled.many i n low few le in let more = used_more (space_of_age (not aged)) (get_or numbers i 0) v.won q in omega arith);
    }

module _ (aged : Bool) (v : Record) (numbers : List ℕ) (used cell : ℕ) (filled : AreFilled aged v numbers used) (room : used < 64 * length numbers) where
  abbrev new_pair : ℕ × Place
  new_pair = (cell, own_place aged numbers used)

  many_more : (i n : ℕ) → i < length numbers → n ≤ 64 → 64 * i + n ≤ used + 1 → n ≤ used_in (space_of_age aged) (get_or numbers i 0) (v.won ++ new_pair ∷ [])
  many_more i n low few le = ⊎_elim
      (λ (old : 64 * i + n < used + 1). (let before = filled.many i n low few (omega arith) in let more = used_more (space_of_age aged) (get_or numbers i 0) v.won new_pair in omega arith))
      (λ (high : used + 1 ≤ 64 * i + n). ⊎_elim
      (λ (none : n ≡ 0). omega arith)
      (λ (some : n ≢ 0).
      let at : i ≡ used / 64 = omega arith in
      let before = filled.many i (n - 1) low (omega arith) (omega arith) in
      let block : get_or numbers (used / 64) 0 ≡ get_or numbers i 0 = ap (λ (j : ℕ). get_or numbers j 0) (sym at) in
      let more = used_one_more (space_of_age aged) (get_or numbers i 0) v.won new_pair refl block in
      omega arith)
      (cases_eq n 0))
      (cases_lt (64 * i + n) (used + 1))

  order_more : (k : ℕ) → k < used + 1 → (pair_at (pairs_in (space_of_age aged) (v.won ++ new_pair ∷ [])) k).1 ≡ own_place aged numbers k
  order_more k low =
      let pairs = pairs_in (space_of_age aged) v.won in
      let ends = filled.ends in
      ap (λ (l : List (ℕ × Place)). (pair_at l k).1) (pairs_push (space_of_age aged) v.won new_pair refl) ∙ ⊎_elim
      (λ (early : k < used). ap (λ (x : ℕ × Place). x.1) (get_or_append_left pairs (new_pair ∷ []) (pair_at [] 0) k (omega arith)) ∙ filled.order k early)
      (λ (late : used ≤ k).
      let at : k ≡ used = omega arith in
      ap (λ (x : ℕ × Place). x.1) (get_or_push pairs new_pair (pair_at [] 0) k (omega arith)) ∙ ap (own_place aged numbers) (sym at))
      (cases_lt k used)

  pub filled_won : get_or numbers (used / 64) 0 < 2 ^ 20 → AreFilled aged (with_won v new_pair) numbers (used + 1)
  filled_won few =
      let least = rising_least numbers filled.rising (used / 64) (omega arith) in
      let close = filled.close in
      let ends = filled.ends in
      record {
        same = filled.same;
        rising = filled.rising;
        room = omega arith;
        close = omega arith;
        few = omega arith;
        ends = ap length (pairs_push (space_of_age aged) v.won new_pair refl) ∙ length_push (pairs_in (space_of_age aged) v.won) new_pair ∙ ap (λ (n : ℕ). n + 1) ends;
        order = order_more;
        many = many_more;
      }

-- ---- what a claim finds

module _ (cell : ℕ) (aged : Bool) (v : Record) where
  pub finds_won : (p : Place) → p.space ≡ space_of_age aged → IsPlace p → Finds cell aged v (with_won v (cell, p))
  finds_won p s inside = record {
    won = (cell, p) ∷ [];
    one = omega arith;
    is_won = refl;
    reasons = All-push (λ (q : ℕ × Place). (q.0 ≡ cell) × (q.1.space ≡ space_of_age aged) × IsPlace q.1) [] (cell, p) (All-nil (λ (q : ℕ × Place). (q.0 ≡ cell) × (q.1.space ≡ space_of_age aged) × IsPlace q.1)) (refl, s, inside);
    seen = [];
    is_seen = sym (append-nil v.seen);
    chunks = refl;
    share = refl;
  }

  pub finds_seen : (p : Place) → Finds cell aged v (with_seen v (cell, p))
  finds_seen p = record {
    won = [];
    one = omega arith;
    is_won = sym (append-nil v.won);
    reasons = All-nil (λ (q : ℕ × Place). (q.0 ≡ cell) × (q.1.space ≡ space_of_age aged) × IsPlace q.1);
    seen = (cell, p) ∷ [];
    is_seen = refl;
    chunks = refl;
    share = refl;
  }

  -- a claim after blocks were claimed
  pub finds_after : (u w : Record) → OnlyBlocks v u → Finds cell aged u w → Finds cell aged v w
  finds_after u w only finds = record {
    won = finds.won;
    one = finds.one;
    is_won = finds.is_won ∙ ap (λ (l : List (ℕ × Place)). l ++ finds.won) only.won;
    reasons = finds.reasons;
    seen = finds.seen;
    is_seen = finds.is_seen ∙ ap (λ (l : List (ℕ × Place)). l ++ finds.seen) only.seen;
    chunks = finds.chunks ∙ only.chunks;
    share = finds.share ∙ only.share;
  }

module _ (v : Record) (cell : ℕ) (p : Place) where
  pub won_met : Contains (cells_met (with_won v (cell, p))) cell
  won_met = Contains-append_left (map (λ (q : ℕ × Place). q.0) (v.won ++ (cell, p) ∷ [])) (map (λ (q : ℕ × Place). q.0) v.seen) cell (map_has (λ (q : ℕ × Place). q.0) (v.won ++ (cell, p) ∷ []) (cell, p) (Contains-push v.won (cell, p)))

  pub seen_met : Contains (cells_met (with_seen v (cell, p))) cell
  seen_met = Contains-append_right (map (λ (q : ℕ × Place). q.0) v.won) (map (λ (q : ℕ × Place). q.0) (v.seen ++ (cell, p) ∷ [])) cell (map_has (λ (q : ℕ × Place). q.0) (v.seen ++ (cell, p) ∷ []) (cell, p) (Contains-push v.seen (cell, p)))

  pub won_known : IsPlace p → (to : ℕ → Place) → HasPlaces (with_won v (cell, p)) to → to cell ≡ p
  won_known inside to has_number = All-contains (HasPlaceOf to) (v.won ++ (cell, p) ∷ []) (cell, p) has_number.won (Contains-push v.won (cell, p)) inside

  pub seen_known : IsPlace p → (to : ℕ → Place) → HasPlaces (with_seen v (cell, p)) to → to cell ≡ p
  seen_known inside to has_number = All-contains (HasPlaceOf to) (v.seen ++ (cell, p) ∷ []) (cell, p) has_number.seen (Contains-push v.seen (cell, p)) inside

-- ---- the next place

pub age_two : (aged : Bool) → space_of_age aged < 2
age_two true = omega arith
age_two false = omega arith

-- an own place in a block that the layout can name is a place
module _ (aged : Bool) (numbers : List ℕ) (used : ℕ) (few : get_or numbers (used / 64) 0 < 2 ^ 20) where
  pub own_is_place : IsPlace (own_place aged numbers used)
  own_is_place = record { space = (let two = age_two aged in omega arith); block = few; cell = omega arith }

-- the place that is read in the word of the next one
module _ (used : ℕ) (b : OwnBlocks) (ready : IsSeatReady used b) where
  abbrev next_own : Place
  next_own = own_place b.aged b.numbers.items used

  pub next_inside : IsPlace next_own
  next_inside = own_is_place b.aged b.numbers.items used ready.few

  pub next_read : place_in b.next ≡ next_own
  next_read = ap place_in ready.next ∙ place_in-word_at no_rights next_own next_inside

  pub next_link : b.next ≡ link_to (place_in b.next)
  next_link = ready.next ∙ ap link_to (sym next_read)

-- where the next word isn't the end, a place is left
pub places_left : (used : ℕ) (b : OwnBlocks) → LeavesPlaces used b → used ≤ 64 * length b.numbers.items → b.next ≢ b.end → used < 64 * length b.numbers.items
places_left used b left room some = omega arith

-- the place after another one in its block
abbrev place_behind : Place → Place
place_behind p = record { space = p.space; block = p.block; cell = p.cell + 1 }

-- its word is one cell further
word_behind : (p : Place) → link_to (place_behind p) ≡ link_to p + 2 ^ 8
word_behind p = omega arith

-- after one more win the next place is the one after, where some are left
module _ (used : ℕ) (b : OwnBlocks) (next : ℕ) (ready : IsSeatReady used b) (on : next ≡ link_to (place_behind (place_in b.next))) where
  abbrev after : OwnBlocks
  after = record { aged = b.aged; numbers = b.numbers; next = next; end = b.end; is_past = b.is_past }

  pub left_more : LeavesPlaces (used + 1) after
  left_more =
      let step : next ≡ b.next + 2 ^ 8 = on ∙ word_behind (place_in b.next) ∙ ap (λ (w : ℕ). w + 2 ^ 8) (sym (next_link used b ready)) in
      let left = ready.left in
      omega arith

  pub ready_more : used < 64 * length b.numbers.items → 64 * length b.numbers.items ≤ used + 64 → next ≢ b.end → IsSeatReady (used + 1) after
  ready_more room close some =
      let low = places_left (used + 1) after left_more (omega arith) some in
      let same : (used + 1) / 64 ≡ used / 64 = omega arith in
      let block : get_or b.numbers.items ((used + 1) / 64) 0 ≡ get_or b.numbers.items (used / 64) 0 = ap (λ (i : ℕ). get_or b.numbers.items i 0) same in
      let cell : (used + 1) % 64 ≡ used % 64 + 1 = omega arith in
      let few = ready.few in
      let behind : place_behind (own_place b.aged b.numbers.items used) ≡ own_place b.aged b.numbers.items (used + 1) = λ i. record { space = space_of_age b.aged; block = sym block i; cell = sym cell i } in
      record {
        left = left_more;
        few = omega arith;
        next = on ∙ ap link_to (ap place_behind (next_read used b ready) ∙ behind);
      }

-- ---- what stays

-- no more places were given away in a space than cells were won
pub used_few : (aged : Bool) (v : Record) → cells_used aged v ≤ length v.won
used_few aged v =
    let both = length-filter_both (λ (q : ℕ × Place). q.1.space == space_of_age aged) (λ (q : ℕ × Place). not (q.1.space == space_of_age aged)) (λ q. refl) v.won in omega arith

-- so many places were given away as there are won cells
pub filled_all : (aged : Bool) (v : Record) (numbers : List ℕ) (used : ℕ) → AreFilled aged v numbers used → AreFilled aged v numbers (cells_used aged v)
filled_all aged v numbers used filled = subst (λ (n : ℕ). AreFilled aged v numbers n) (sym filled.ends) filled

pub other_claimed : (aged : Bool) (v : Record) (b : ℕ) → OtherStays aged v (with_claimed_block aged v b)
other_claimed true v b numbers used filled = record { same = filled.same; rising = filled.rising; room = filled.room; close = filled.close; few = filled.few; ends = filled.ends; order = filled.order; many = filled.many }
other_claimed false v b numbers used filled = record { same = filled.same; rising = filled.rising; room = filled.room; close = filled.close; few = filled.few; ends = filled.ends; order = filled.order; many = filled.many }

pub only_claimed : (aged : Bool) (v : Record) (b : ℕ) → OnlyBlocks v (with_claimed_block aged v b)
only_claimed true v b = record { chunks = refl; won = refl; seen = refl; share = refl }
only_claimed false v b = record { chunks = refl; won = refl; seen = refl; share = refl }

filled_seen : (aged : Bool) (v : Record) (q : ℕ × Place) (numbers : List ℕ) (used : ℕ) → AreFilled aged v numbers used → AreFilled aged (with_seen v q) numbers used
filled_seen aged v q numbers used filled = record { same = filled.same; rising = filled.rising; room = filled.room; close = filled.close; few = filled.few; ends = filled.ends; order = filled.order; many = filled.many }

-- where the cell was seen
pub stay_seen : (board : Board) (helper : Seated) (b : OwnBlocks) → HoldsBlocks board helper b → (q : ℕ × Place) → StayFilled b helper b (record helper { done = with_seen helper.done q })
stay_seen board helper b held q = record {
  space = refl;
  seat = refl;
  filled = filled_seen b.aged helper.done q b.numbers.items (cells_used b.aged helper.done) held.filled;
  other = λ numbers used filled. filled_seen (not b.aged) helper.done q numbers used filled;
  room = refl;
}

-- ---- what a claim of the next place finds

module _ (board : Board) (cell : ℕ) (b : OwnBlocks) (old : Seated) (held : HoldsBlocks board old b) (ready : IsSeatReady (cells_used b.aged old.done) b) where
  abbrev used : ℕ
  used = cells_used b.aged old.done

  pub found_seen : (word : ℕ) → IsPlace (place_in word) → IsClaimLink word → FindsNext cell b old b (record old { done = with_seen old.done (cell, place_in word) }) word
  found_seen word inside link = record {
    stay = stay_seen board old b held (cell, place_in word);
    finds = finds_seen cell b.aged old.done (place_in word);
    left = ready.left;
    next = λ some. ready;
    past = refl;
    met = seen_met old.done cell (place_in word);
    link = link;
    known = seen_known old.done cell (place_in word) inside;
  }

  module _ (some : b.next ≢ b.end) where
    room_left : used < 64 * length b.numbers.items
    room_left = places_left used b ready.left held.filled.room some

    pub may_use : can_use old.done (place_in b.next) ≡ true
    may_use = subst (λ (p : Place). can_use old.done p ≡ true) (sym (next_read used b ready)) (may_give b.aged old.done b.numbers.items used held.filled room_left)

    pub found_won : (next : ℕ) → next ≡ link_to (place_behind (place_in b.next)) → FindsNext cell b old (record b { next = next }) (record old { done = with_won old.done (cell, place_in b.next) }) b.next
    found_won next on =
        let at = next_read used b ready in
        let inside = subst IsPlace (sym at) (next_inside used b ready) in
        let space = ap (λ (p : Place). p.space) at in
        let filled = subst (λ (p : Place). AreFilled b.aged (with_won old.done (cell, p)) b.numbers.items (used + 1)) (sym at) (filled_won b.aged old.done b.numbers.items used cell held.filled room_left ready.few) in
        let more = filled.ends in
        record {
          stay = record {
            space = refl;
            seat = refl;
            filled = filled_all b.aged (with_won old.done (cell, place_in b.next)) b.numbers.items (used + 1) filled;
            other = other_won b.aged old.done (cell, place_in b.next) space;
            room = refl;
          };
          finds = finds_won cell b.aged old.done (place_in b.next) space inside;
          left = subst (λ (n : ℕ). LeavesPlaces n (record b { next = next })) (sym more) (left_more used b next ready on);
          next = λ left. subst (λ (n : ℕ). IsSeatReady n (record b { next = next })) (sym more) (ready_more used b next ready on room_left held.filled.close left);
          past = refl;
          met = won_met old.done cell (place_in b.next);
          link = next_link used b ready;
          known = won_known old.done cell (place_in b.next) inside;
        }

-- ---- one claim after another

module _ {before : OwnBlocks} {old : Seated} {after : OwnBlocks} {new : Seated} (stay : StayFilled before old after new) where
  pub stay_both : {last : OwnBlocks} {newest : Seated} → StayFilled after new last newest → StayFilled before old last newest
  stay_both {last = last} {newest = newest} two = record {
    space = two.space ∙ stay.space;
    seat = two.seat ∙ stay.seat;
    filled = subst (λ (a : Bool). AreFilled a newest.done last.numbers.items (cells_used a newest.done)) stay.space two.filled;
    other = λ numbers used filled.
        subst (λ (a : Bool). AreFilled (not a) new.done numbers used → AreFilled (not a) newest.done numbers used) stay.space (two.other numbers used) (stay.other numbers used filled);
    room = two.room ∙ stay.room;
  }

-- after a claim of the next place the next one is known, or all blocks are full
pub knows_after : {limit cell : ℕ} {before : OwnBlocks} {old : Seated} {after : OwnBlocks} {new : Seated} {word : ℕ} → FindsNext cell before old after new word → KnowsNext limit old.done before → before.next ≢ before.end → KnowsNext limit new.done after
knows_after {before = before} {after = after} {new = new} finds known some =
    let same : cells_used before.aged new.done ≡ cells_used after.aged new.done = ap (λ (a : Bool). cells_used a new.done) (sym finds.stay.space) in
    record {
      some = λ left. subst (λ (n : ℕ). IsSeatReady n after) same (finds.next left);
      none = λ end within. (let left = finds.left in omega arith);
      past = λ past. absurd (some (known.past (sym finds.past ∙ past)).0);
    }
