-- The one record of a closed table: its wins differ, and the numbers that it has drawn have no gaps.
use Rattle.std.proofs.Common.{◌≡◌, ◌≢◌, ℕ, suc, ◌+◌, ◌<◌, ◌≤◌, ◌==◌, ◌&&◌, List, [], ◌∷◌, length, get_or, Bool, true, false, if◌then◌else◌, IsTrue, eqb, eqb-true, eq-eqb, ne_eqb, sym, refl, ap, ◌∙◌, ⊎_elim, arith}
use Rattle.std.specs.List.{AllPairs, Contains}
use Rattle.std.proofs.lemmas.Bool.{cond-true, cond-false, cases_lt, cases_eq}
use Rattle.tg_word.specs.declared.Place.{Place}
use Rattle.tg_race.specs.declared.record.Counts.{Counts}
use Rattle.tg_race.specs.declared.record.Record.{Record}
use Rattle.tg_race.specs.Weights.{weigh, one_at}
use Rattle.tg_race.specs.Words.{has_pair, place_at, same_pair, same_place, weigh_words}
use Rattle.tg_race.specs.Race.{IsDrawn, AreConsecutive}
use Rattle.tg_race.specs.Board.{IsClosedTable}
use Rattle.tg_race.proofs.Drawn.{drawn_once, drawn_below, drawn_above, weighs_at, number_found}
use Rattle.tg_race.proofs.Standing.{same_place_self}
use Rattle.tg_race.proofs.Sums.{any_weighs, count_below, one_below, weigh_two, weigh-add, weigh-le, weigh_ones}

-- where the items with one key are at most one, the keys differ
pub differ : {A B : Type 0} (key : A → B) (test : B → B → Bool) → ((b : B) → test b b ≡ true)
    → (xs : List A) → ((b : B) → weigh (λ x. if test (key x) b then 1 else 0) xs ≤ 1) → AllPairs (λ x y. key x ≢ key y) xs
differ {A} {B} key test self xs most = λ i j d lt low same.
    let first : B = key (get_or xs i d) in
    let second : B = key (get_or xs j d) in
    let two = weigh_two (λ (x : A). if test (key x) second then 1 else 0) xs i j d lt low in
    let one = most second in
    absurd (omega (arith, cond-true {A = ℕ} (test first second) 1 0 (ap (λ (b : B). test b second) same ∙ self second), cond-true {A = ℕ} (test second second) 1 0 (self second)))

-- ---- wins

-- each cell has one word, so a cell weighs at most once
weightless : (b : Bool) (n : ℕ) → (if b then 0 else n) ≤ n
weightless true n = omega arith
weightless false n = omega arith

cell_none : (c i : ℕ) (ws : List ℕ) → c < i → weigh_words (λ q. if q.0 == c then 1 else 0) i ws ≡ 0
cell_none c i [] past = refl
cell_none c i (w ∷ ws) past =
    let other : i ≢ c = λ e. absurd (omega arith) in
    omega (arith, weightless (eqb w 0) (if eqb i c then 1 else 0), cond-false {A = ℕ} (eqb i c) 1 0 (ne_eqb i c other), cell_none c (suc i) ws (omega arith))

pub cell_once : (c i : ℕ) (ws : List ℕ) → weigh_words (λ q. if q.0 == c then 1 else 0) i ws ≤ 1
cell_once c i [] = omega arith
cell_once c i (w ∷ ws) = ⊎_elim
    (λ (e : i ≡ c). omega (arith, weightless (eqb w 0) (if eqb i c then 1 else 0), cond-true {A = ℕ} (eqb i c) 1 0 (eq-eqb i c e), cell_none c (suc i) ws (omega arith)))
    (λ (ne : i ≢ c). omega (arith, weightless (eqb w 0) (if eqb i c then 1 else 0), cond-false {A = ℕ} (eqb i c) 1 0 (ne_eqb i c ne), cell_once c (suc i) ws))
    (cases_eq i c)

-- a test and one of two that exclude each other are passed once
one_of_two : (a b test : Bool) → (a ≡ true → b ≡ true → test ≡ true → ⊥) → (if a && test then 1 else 0) + (if b && test then 1 else 0) ≤ (if test then 1 else 0)
one_of_two true true true apart = absurd (apart refl refl refl)
one_of_two true true false apart = omega arith
one_of_two true false true apart = omega arith
one_of_two true false false apart = omega arith
one_of_two false true true apart = omega arith
one_of_two false true false apart = omega arith
one_of_two false false true apart = omega arith
one_of_two false false false apart = omega arith

module _ (k : Counts) (words : List ℕ) (done : Record) (closed : IsClosedTable k words done) where
  pub cells_differ : AllPairs (λ q r. q.0 ≢ r.0) done.won
  cells_differ = differ (λ (q : ℕ × Place). q.0) eqb (λ c. eq-eqb c c refl) done.won (λ c.
      let all = closed.rule.wins_once.won (λ (q : ℕ × Place). if q.0 == c then 1 else 0) in omega (arith, cell_once c 0 words))

  place_once : (p : Place) → weigh (place_at p) done.won ≤ 1
  place_once p = let most = closed.rule.places_own.apart p in omega arith

  pub places_differ : AllPairs (λ q r. q.1 ≢ r.1) done.won
  places_differ = differ (λ (q : ℕ × Place). q.1) same_place same_place_self done.won place_once

  pub one_cell : (cell other : ℕ) (p : Place) → IsTrue (has_pair cell p done.won) → IsTrue (has_pair other p done.won) → cell ≡ other
  one_cell cell other p here there = ⊎_elim
      (λ e. e)
      (λ (ne : cell ≢ other). absurd (
      let first = any_weighs (same_pair cell p) done.won here in
      let second = any_weighs (same_pair other p) done.won there in
      let most = place_once p in
      let both = weigh-add (λ (q : ℕ × Place). if same_pair cell p q then 1 else 0) (λ (q : ℕ × Place). if same_pair other p q then 1 else 0) done.won in
      let below = weigh-le (λ (q : ℕ × Place). (if same_pair cell p q then 1 else 0) + (if same_pair other p q then 1 else 0)) (place_at p)
      (λ q. one_of_two (q.0 == cell) (q.0 == other) (same_place q.1 p) (λ is was _. ne (sym (eqb-true q.0 cell is) ∙ eqb-true q.0 other was))) done.won in
      omega arith))
      (cases_eq cell other)

-- ---- numbers

-- what one record alone has drawn differs and has no gap
pub consecutive : (start counter : ℕ) (of : Record → List ℕ) (done : Record) → IsDrawn start counter of (done ∷ []) → AreConsecutive start (of done)
consecutive start counter of done drawn = record { differ = differ (λ (n : ℕ). n) eqb (λ n. eq-eqb n n refl) (of done) once; exactly = λ n. (there n, back n) }
  where
    length_is : start + length (of done) ≡ counter
    length_is = let all = drawn (λ _. 1) in omega (arith, count_below start, count_below counter, weigh_ones (of done))

    once : (n : ℕ) → weigh (one_at n) (of done) ≤ 1
    once n = let all = drawn (one_at n) in omega (arith, one_below n counter)

    there : (n : ℕ) → Contains (of done) n → (start ≤ n) × (n < start + length (of done))
    there n held =
        let w : 0 < weigh (one_at n) (of done) = rw (sym held.2) (weighs_at (of done) held.0 n held.1) in
        let long = length_is in (
          ⊎_elim (λ (low : n < start). absurd (let none = drawn_below start counter of (done ∷ []) drawn n low in omega arith)) (λ le. le) (cases_lt n start),
          ⊎_elim (λ (lt : n < counter). omega arith) (λ (high : counter ≤ n). absurd (let none = drawn_above start counter of (done ∷ []) drawn n high in omega arith)) (cases_lt n counter),
        )

    back : (n : ℕ) → (start ≤ n) × (n < start + length (of done)) → Contains (of done) n
    back n within =
        let from = within.0 in
        let long = length_is in
        let low : n < counter = (let below = within.1 in omega arith) in
        number_found n (of done) (let one = drawn_once start counter of (done ∷ []) drawn n from low in omega arith)
