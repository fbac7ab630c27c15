-- What 'drawn' says of one number, and of the numbers of one record.
use Rattle.std.proofs.Common.{◌≡◌, ◌≢◌, ℕ, ◌<◌, ◌≤◌, List, [], ◌∷◌, length, get_or, eqb, eq-eqb, ne_eqb, refl, ⊎_elim, arith}
use Rattle.std.specs.List.{All, Contains}
use Rattle.std.proofs.lemmas.Bool.{cond-true, cond-false, cases_eq, cases_lt}
use Rattle.std.proofs.lemmas.List.Elements.{Contains-append_right}
use mathlib.Core.Option.{some}
use lib.ListN.{get_elem?}
use Rattle.tg_race.specs.declared.record.Record.{Record}
use Rattle.tg_race.specs.Weights.{weigh, one_at}
use Rattle.tg_race.specs.Race.{IsDrawn}
use Rattle.tg_race.proofs.Sums.{one_below, one_past, one_here, weigh_at, weigh_one_le}

module _ (start counter : ℕ) (of : Record → List ℕ) (records : List Record) (drawn : IsDrawn start counter of records) (n : ℕ) where
  pub drawn_once : start ≤ n → n < counter → weigh (λ v. weigh (one_at n) (of v)) records ≡ 1
  drawn_once from below =
      let d = drawn (one_at n) in
      omega (arith, one_past n start from, one_here n counter below, one_below n counter)

  pub drawn_below : n < start → weigh (λ v. weigh (one_at n) (of v)) records ≡ 0
  drawn_below below =
      let d = drawn (one_at n) in
      omega (arith, one_here n start below, one_below n counter)

  pub drawn_above : counter ≤ n → weigh (λ v. weigh (one_at n) (of v)) records ≡ 0
  drawn_above above =
      let d = drawn (one_at n) in
      omega (arith, one_past n counter above)

-- a number weighs in a list that has it
pub weighs_at : (xs : List ℕ) (i d : ℕ) → i < length xs → 0 < weigh (one_at (get_or xs i d)) xs
weighs_at xs i d low =
    let n : ℕ = get_or xs i d in
    omega (arith, weigh_at (one_at n) xs i d low, cond-true {A = ℕ} (eqb n n) 1 0 (eq-eqb n n refl))

-- the numbers that a record has drawn are below the counter
pub drawn_under : (start counter : ℕ) (of : Record → List ℕ) (records : List Record) (id : ℕ) (v : Record) → IsDrawn start counter of records → get_elem? records id ≡ some v → All (λ n. n < counter) (of v)
drawn_under start counter of records id v drawn at = λ i d low. ⊎_elim
    (λ lt. lt)
    (λ (above : counter ≤ get_or (of v) i d). absurd (
    let none = drawn_above start counter of records drawn (get_or (of v) i d) above in
    let one = weigh_one_le (λ (u : Record). weigh (one_at (get_or (of v) i d)) (of u)) records id v at in
    let mine = weighs_at (of v) i d low in omega arith))
    (cases_lt (get_or (of v) i d) counter)

-- a number that weighs is in the list
pub number_found : (n : ℕ) (xs : List ℕ) → 0 < weigh (one_at n) xs → Contains xs n
number_found n [] weight = absurd (omega arith)
number_found n (x ∷ xs) weight = ⊎_elim
    (λ (e : x ≡ n). (0, omega arith, e))
    (λ (ne : x ≢ n). Contains-append_right (x ∷ []) xs n (number_found n xs (omega (arith, cond-false {A = ℕ} (eqb x n) 1 0 (ne_eqb x n ne)))))
    (cases_eq x n)
