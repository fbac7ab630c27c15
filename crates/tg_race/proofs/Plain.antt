-- What sums of weights say in plain words: two lists with the same items, each once, weigh the same.
use Rattle.std.proofs.Common.{◌≡◌, ◌≢◌, ◌⊎◌, ◌↔◌, ℕ, zero, suc, ◌+◌, ◌<◌, ◌==◌, List, [], ◌∷◌, ◌++◌, length, get_or, Bool, true, if◌then◌else◌, eqb, eqb-true, eq-eqb, sym, refl, ap, ◌∙◌, subst, inl, inr, ⊎_elim, arith, ◌&&◌}
use Rattle.std.specs.List.{AllPairs, Contains}
use Rattle.std.proofs.lemmas.Bool.{and_parts, cond-true}
use Rattle.std.proofs.lemmas.List.Elements.{All-contains_itself, Contains-append_left, Contains-append_right, Contains-append_cases}
use Rattle.tg_word.specs.declared.Place.{Place}
use Rattle.tg_word.specs.Word.{IsPlace}
use Rattle.tg_race.specs.declared.record.Record.{Record}
use Rattle.tg_race.specs.Weights.{weigh, weigh_below}
use Rattle.tg_race.specs.Words.{AreForward, IsPair, place_of, same_pair, same_place, weigh_words, place_word}
use Rattle.tg_race.specs.Race.{AreDrawnOnce, AreWinsOf, AreWonOnce, IsDrawn, Race, all_of, empty}
use Rattle.tg_race.proofs.Closed.{cell_once, consecutive, differ}
use Rattle.tg_race.proofs.Standing.{pair_at, same_place_self, taken_pair, weighed_passes}
use Rattle.tg_race.proofs.Steps.{same_place_is}
use Rattle.tg_race.proofs.Sums.{any_all, count_below, weigh-append, weigh_at, weigh_ones, weighs_any}

-- ---- lists with the same items

module _ {A : Type 0} where
  -- no item is there twice
  abbrev Distinct : List A → Type 0
  Distinct [] = Unit {0}
  Distinct (x ∷ xs) = ((y : A) → Contains xs y → x ≢ y) × Distinct xs

  here : (x : A) (xs : List A) → Contains (x ∷ xs) x
  here x xs = (0, omega arith, refl)

  later : (x : A) (xs : List A) (y : A) → Contains xs y → Contains (x ∷ xs) y
  later x xs y held = Contains-append_right (x ∷ []) xs y held

  head_or : (x : A) (xs : List A) (y : A) → Contains (x ∷ xs) y → (x ≡ y) ⊎ Contains xs y
  head_or x xs y held = at held.0 held.1 held.2
    where
      at : (k : ℕ) → k < length (x ∷ xs) → get_or (x ∷ xs) k y ≡ y → (x ≡ y) ⊎ Contains xs y
      at zero low is = inl is
      at (suc k) low is = inr (k, omega arith, is)

  distinct : (xs : List A) → AllPairs (λ x y. x ≢ y) xs → Distinct xs
  distinct [] pairs = tt
  distinct (x ∷ xs) pairs = (
    λ y held same. pairs 0 (suc held.0) y (omega arith) (let low = held.1 in omega arith) (same ∙ sym held.2),
    distinct xs (λ i j d lt low. pairs (suc i) (suc j) d (omega arith) (omega arith)),
  )

  -- the list is cut before and after an item
  record Cut (x : A) (xs : List A) : Type 0 where
    pub before : List A
    pub after : List A
    pub is : xs ≡ before ++ x ∷ after

  cut : (x : A) (xs : List A) → Contains xs x → Cut x xs
  cut x [] held = absurd (let low = held.1 in omega arith)
  cut x (y ∷ xs) held = ⊎_elim
      (λ (same : y ≡ x). record { before = []; after = xs; is = ap (λ (z : A). z ∷ xs) same })
      (λ (rest : Contains xs x). let c = cut x xs rest in record { before = y ∷ c.before; after = c.after; is = ap (λ (l : List A). y ∷ l) c.is })
      (head_or y xs x held)

  among : (x : A) (before after : List A) (y : A) → Contains (before ++ after) y → Contains (before ++ x ∷ after) y
  among x before after y held = ⊎_elim
      (λ a. Contains-append_left before (x ∷ after) y a)
      (λ b. Contains-append_right before (x ∷ after) y (later x after y b))
      (Contains-append_cases before after y held)

  among_or : (x : A) (before after : List A) (y : A) → Contains (before ++ x ∷ after) y → (x ≡ y) ⊎ Contains (before ++ after) y
  among_or x before after y held = ⊎_elim
      (λ a. inr (Contains-append_left before after y a))
      (λ b. ⊎_elim (λ (e : x ≡ y). inl e) (λ c. inr (Contains-append_right before after y c)) (head_or x after y b))
      (Contains-append_cases before (x ∷ after) y held)

  without : (x : A) (before after : List A) → Distinct (before ++ x ∷ after) → Distinct (before ++ after)
  without x [] after d = d.1
  without x (y ∷ before) after d = (λ z held. d.0 z (among x before after z held), without x before after d.1)

  apart : (x : A) (before after : List A) → Distinct (before ++ x ∷ after) → (y : A) → Contains (before ++ after) y → x ≢ y
  apart x [] after d y held = d.0 y held
  apart x (z ∷ before) after d y held = λ same. ⊎_elim
      (λ (e : z ≡ y). d.0 x (Contains-append_right before (x ∷ after) x (here x after)) (e ∙ sym same))
      (λ rest. apart x before after d.1 y rest same)
      (head_or z (before ++ after) y held)

  pub same_weight : (h : A → ℕ) (xs ys : List A) → Distinct xs → Distinct ys
      → ((x : A) → Contains xs x → Contains ys x) → ((x : A) → Contains ys x → Contains xs x) → weigh h xs ≡ weigh h ys
  same_weight h [] [] one two there back = refl
  same_weight h [] (y ∷ ys) one two there back = absurd (let low = (back y (here y ys)).1 in omega arith)
  same_weight h (x ∷ xs) ys one two there back =
      let c = cut x ys (there x (here x xs)) in
      let rest : List A = c.before ++ c.after in
      let two' : Distinct (c.before ++ x ∷ c.after) = subst (λ (l : List A). Distinct l) c.is two in
      let there' : (y : A) → Contains xs y → Contains rest y = λ y held. ⊎_elim
      (λ (e : x ≡ y). absurd (one.0 y held e))
      (λ r. r)
      (among_or x c.before c.after y (subst (λ (l : List A). Contains l y) c.is (there y (later x xs y held)))) in
      let back' : (y : A) → Contains rest y → Contains xs y = λ y held. ⊎_elim
      (λ (e : x ≡ y). absurd (apart x c.before c.after two' y held e))
      (λ r. r)
      (head_or x xs y (back y (subst (λ (l : List A). Contains l y) (sym c.is) (among x c.before c.after y held)))) in
      let less = same_weight h xs rest one.1 (without x c.before c.after two') there' back' in
      let whole = ap (λ (l : List A). weigh h l) c.is in
      omega (arith, weigh-append h c.before (x ∷ c.after), weigh-append h c.before c.after)

pub weigh-all_of : {A : Type 0} (h : A → ℕ) (of : Record → List A) (records : List Record) → weigh h (all_of of records) ≡ weigh (λ v. weigh h (of v)) records
weigh-all_of h of [] = refl
weigh-all_of h of (v ∷ records) = omega (arith, weigh-append h (of v) (all_of of records), weigh-all_of h of records)

-- ---- numbers

-- so many numbers from the start on
abbrev span : ℕ → ℕ → List ℕ
span start zero = []
span start (suc n) = (start + n) ∷ span start n

weigh-span : (h : ℕ → ℕ) (start n : ℕ) → weigh_below h start + weigh h (span start n) ≡ weigh_below h (start + n)
weigh-span h start zero =
    let e : start ≡ start + 0 = omega arith in
    let same = ap (λ (m : ℕ). weigh_below h m) e in
    omega arith
weigh-span h start (suc n) =
    let e : start + suc n ≡ suc (start + n) = omega arith in
    let more = ap (λ (m : ℕ). weigh_below h m) e in
    omega (arith, weigh-span h start n)

length-span : (start n : ℕ) → length (span start n) ≡ n
length-span start zero = refl
length-span start (suc n) = omega (arith, length-span start n)

once_of : (start counter : ℕ) (numbers : List ℕ) → ((h : ℕ → ℕ) → weigh_below h start + weigh h numbers ≡ weigh_below h counter) → AreDrawnOnce start counter numbers
once_of start counter numbers all = record {
  consecutive = consecutive start counter (λ _. numbers) (empty 0) (λ h. let e = all h in omega arith);
  reach = let ones = all (λ _. 1) in omega (arith, count_below start, count_below counter, weigh_ones numbers);
}

weighs_of : (start counter : ℕ) (numbers : List ℕ) → AreDrawnOnce start counter numbers → (h : ℕ → ℕ) → weigh_below h start + weigh h numbers ≡ weigh_below h counter
weighs_of start counter numbers once h =
    let n : ℕ = length numbers in
    let other = once_of start (start + n) (span start n) (λ g. weigh-span g start n) in
    let long = length-span start n in
    let same = same_weight h numbers (span start n) (distinct numbers once.consecutive.differ) (distinct (span start n) other.consecutive.differ)
    (λ x held. (other.consecutive.exactly x).1 (let in_ = (once.consecutive.exactly x).0 held in let low = in_.0 in let high = in_.1 in (low, omega arith)))
    (λ x held. (once.consecutive.exactly x).1 (let in_ = (other.consecutive.exactly x).0 held in let low = in_.0 in let high = in_.1 in (low, omega arith))) in
    let end = ap (λ (m : ℕ). weigh_below h m) once.reach in
    omega (arith, weigh-span h start n)

pub drawn_is : (start counter : ℕ) (of : Record → List ℕ) (records : List Record) → IsDrawn start counter of records ↔ AreDrawnOnce start counter (all_of of records)
drawn_is start counter of records = (
  λ drawn. once_of start counter (all_of of records) (λ h. let e = drawn h in omega (arith, weigh-all_of h of records)),
  λ once h. let e = weighs_of start counter (all_of of records) once h in omega (arith, weigh-all_of h of records),
)

-- ---- wins

-- the pairs of the words; the first word is that of the cell i
abbrev pairs_in : ℕ → List ℕ → List (ℕ × Place)
pairs_in i [] = []
pairs_in i (w ∷ ws) = (if w == 0 then [] else (i, place_of w) ∷ []) ++ pairs_in (suc i) ws

weigh-pairs_in : (h : ℕ × Place → ℕ) (i : ℕ) (ws : List ℕ) → weigh h (pairs_in i ws) ≡ weigh_words h i ws
weigh-pairs_in h i [] = refl
weigh-pairs_in h i (w ∷ ws) = omega (arith, weigh-append h (if w == 0 then [] else (i, place_of w) ∷ []) (pairs_in (suc i) ws), first (w == 0), weigh-pairs_in h (suc i) ws)
  where
    first : (b : Bool) → weigh h (if b then [] else (i, place_of w) ∷ []) ≡ (if b then 0 else h (i, place_of w))
    first true = refl
    first b = omega arith

weighs_pair : (won : List (ℕ × Place)) (q : ℕ × Place) → Contains won q → 0 < weigh (pair_at q.0 q.1) won
weighs_pair won q held =
    let test : same_pair q.0 q.1 q ≡ true = λ i. eq-eqb q.0 q.0 refl i && same_place_self q.1 i in
    let self : pair_at q.0 q.1 q ≡ 1 = cond-true {A = ℕ} (same_pair q.0 q.1 q) 1 0 test in
    let is = ap (λ (r : ℕ × Place). pair_at q.0 q.1 r) held.2 in
    omega (arith, weigh_at (pair_at q.0 q.1) won held.0 q held.1)

pair_held : (won : List (ℕ × Place)) (q : ℕ × Place) → 0 < weigh (pair_at q.0 q.1) won → Contains won q
pair_held won q weight =
    let found = any_all (Contains won) (same_pair q.0 q.1) won (All-contains_itself won) (weighs_any (same_pair q.0 q.1) won weight) in
    let test = and_parts (found.0.0 == q.0) (same_place found.0.1 q.1) found.1 in
    let cell : found.0.0 ≡ q.0 = eqb-true found.0.0 q.0 test.0 in
    let place : found.0.1 ≡ q.1 = same_place_is found.0.1 q.1 test.1 in
    let is : found.0 ≡ q = λ i. (cell i, place i) in
    subst (λ (r : ℕ × Place). Contains won r) is found.2

wins_of : (words : List ℕ) (won : List (ℕ × Place)) → AreForward words → ((h : ℕ × Place → ℕ) → weigh h won ≡ weigh_words h 0 words) → AreWinsOf words won
wins_of words won forward all = record {
  forward = forward;
  differ = differ (λ (q : ℕ × Place). q.0) eqb (λ c. eq-eqb c c refl) won (λ c. let e = all (λ (q : ℕ × Place). if q.0 == c then 1 else 0) in omega (arith, cell_once c 0 words));
  exactly = λ q. (there q, back q);
}
  where
    there : (q : ℕ × Place) → Contains won q → IsPlace q.1 × IsPair words q
    there q held =
        let weight = weighs_pair won q held in
        let e = all (pair_at q.0 q.1) in
        let found = weighed_passes (same_pair q.0 q.1) 0 words (omega arith) in
        let w : ℕ = get_or words found.at 0 in
        let test = and_parts (found.cell == q.0) (same_place (place_of w) q.1) found.passes in
        let is : found.at ≡ q.0 = (let here = eqb-true found.cell q.0 test.0 in let f = found.is in omega arith) in
        let fits = forward found.at 0 found.inside found.taken in (
          subst (λ (p : Place). IsPlace p) (same_place_is (place_of w) q.1 test.1) fits.0,
          ap (λ (n : ℕ). get_or words n 0) (sym is) ∙ (sym fits.1 ∙ ap place_word (same_place_is (place_of w) q.1 test.1)),
        )

    back : (q : ℕ × Place) → IsPlace q.1 × IsPair words q → Contains won q
    back q there =
        let weight = taken_pair q.0 0 q.0 q.1 words (omega arith) there.1 there.0 in
        let e = all (pair_at q.0 q.1) in
        pair_held won q (omega arith)

cells_apart : (won : List (ℕ × Place)) → AllPairs (λ q s. q.0 ≢ s.0) won → AllPairs (λ q s. q ≢ s) won
cells_apart won pairs i j d lt low same = pairs i j d lt low (ap (λ (q : ℕ × Place). q.0) same)

weighs_wins : (words : List ℕ) (won : List (ℕ × Place)) → AreWinsOf words won → (h : ℕ × Place → ℕ) → weigh h won ≡ weigh_words h 0 words
weighs_wins words won wins h =
    let pairs : List (ℕ × Place) = pairs_in 0 words in
    let other = wins_of words pairs wins.forward (λ g. weigh-pairs_in g 0 words) in
    same_weight h won pairs (distinct won (cells_apart won wins.differ)) (distinct pairs (cells_apart pairs other.differ))
    (λ q held. (other.exactly q).1 ((wins.exactly q).0 held)) (λ q held. (wins.exactly q).1 ((other.exactly q).0 held))
    ∙ weigh-pairs_in h 0 words

pub wins_are : (r : Race) → AreWonOnce r ↔ AreWinsOf r.words (all_of (λ v. v.won) r.records)
wins_are r =
    let all : List (ℕ × Place) = all_of (λ v. v.won) r.records in (
      λ once. wins_of r.words all once.forward (λ h. weigh-all_of h (λ v. v.won) r.records ∙ once.won h),
      λ wins. record {
        forward = wins.forward;
        won = λ h. sym (weigh-all_of h (λ v. v.won) r.records) ∙ weighs_wins r.words all wins h;
      },
    )
