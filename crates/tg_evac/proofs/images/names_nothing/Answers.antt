use Rattle.std.proofs.Common.{◌≡◌, ◌≤◌, ◌<◌, ℕ, arith, get_or, bit_or, sym, subst, ⊎_elim}
use Rattle.std.proofs.lemmas.Bool.{cases_eq, eqb-true}
use Rattle.std.proofs.lemmas.Nat.{le_or_l, le_or_r}
use Rattle.tg_evac.proofs.images.names_nothing.Goals as goal

-- what holds of 4, 5, 6 and 7 holds of each number from 4 to below 8
each_of_four : (P : ℕ → Type 0) → P 4 → P 5 → P 6 → P 7 → (i : ℕ) → 4 ≤ i → i < 8 → P i
each_of_four P at4 at5 at6 at7 i low high =
    ⊎_elim
    (λ (e : i ≡ 4). subst P (sym e) at4)
    (λ not4.
    ⊎_elim
    (λ (e : i ≡ 5). subst P (sym e) at5)
    (λ not5.
    ⊎_elim
    (λ (e : i ≡ 6). subst P (sym e) at6)
    (λ not6. let last : 7 ≡ i = omega arith in subst P last at7)
    (cases_eq i 6))
    (cases_eq i 5))
    (cases_eq i 4)

-- where the `or` of four numbers is 0, each is
all_none : (a b c d : ℕ) → bit_or (bit_or (bit_or a b) c) d ≡ 0 → (a ≡ 0) × (b ≡ 0) × (c ≡ 0) × (d ≡ 0)
all_none a b c d none =
    let one = bit_or a b in let two = bit_or one c in
    (omega (arith, none, le_or_l two d, le_or_l one c, le_or_l a b), omega (arith, none, le_or_l two d, le_or_l one c, le_or_r a b), omega (arith, none, le_or_l two d, le_or_r one c), omega (arith, none, le_or_r two d))

pub returns : goal.returns
returns c told =
    let object = c.args.object.now in
    let none = all_none (get_or object 4 0) (get_or object 5 0) (get_or object 6 0) (get_or object 7 0) (eqb-true _ 0 told) in
    each_of_four (λ (i : ℕ). get_or object i 0 ≡ 0) none.0 none.1 none.2 none.3
