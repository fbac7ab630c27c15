use Rattle.std.proofs.Common.{◌≡◌, ℕ, zero, suc, ◌+◌, ◌<◌, ◌≤◌, List, [], ◌∷◌, ◌&&◌, Bool, true, false, refl, length, get_or, take, ap, sym, ◌∙◌, arith}
use Rattle.std.specs.Prelude.{nat_lt}
use Rattle.std.specs.List.{list_all}
use Rattle.std.proofs.lemmas.Bool.Decides.{nat_tests}
use Rattle.std.proofs.lemmas.List.{take_all}
use Rattle.std.proofs.lemmas.List.Folds.{list_all_more}
use Rattle.tg_parallel.proofs.part.are_below.Goals as goal

-- one number that isn't below the limit is enough
past : (limit : ℕ) (xs : List ℕ) (i : ℕ) → i < length xs → limit ≤ get_or xs i 0 → false ≡ list_all (λ b. nat_lt b limit) xs
past limit [] i inside high = absurd (omega arith)
past limit (x ∷ xs) zero inside high =
    let test : nat_lt x limit ≡ false = grind (arith, nat_tests) in ap (λ b. b && list_all (λ b. nat_lt b limit) xs) (sym test)
past limit (x ∷ xs) (suc i) inside high =
    let rest : false ≡ list_all (λ b. nat_lt b limit) xs = past limit xs i (omega arith) high in
    sym (and_false (nat_lt x limit)) ∙ ap (λ b. nat_lt x limit && b) rest
  where
    and_false : (b : Bool) → (b && false) ≡ false
    and_false true = refl
    and_false false = refl

-- one number more that is below the limit
more : (limit : ℕ) (xs : List ℕ) (i : ℕ) → i < length xs → get_or xs i 0 < limit → list_all (λ b. nat_lt b limit) (take i xs) ≡ true → list_all (λ b. nat_lt b limit) (take (i + 1) xs) ≡ true
more limit xs i inside low before =
    let test : nat_lt (get_or xs i 0) limit ≡ true = grind (arith, nat_tests) in
    rw (list_all_more (λ b. nat_lt b limit) xs i 0 inside, before, test) refl

pub loop-number-preserved : goal.loop-number-preserved
loop-number-preserved c =
    more c.args.limit c.args.numbers.now c.loop-number.number-index c.loop-number-test.true c.if-number-limit.false c.loop-number.invariant

pub returns-then-number-limit : goal.returns-then-number-limit
returns-then-number-limit c = past c.args.limit c.args.numbers.now c.loop-number.number-index c.loop-number-test.true c.if-number-limit.true

pub returns : goal.returns
returns c =
    sym c.loop-number.invariant ∙ ap (list_all (λ b. nat_lt b c.args.limit)) (take_all _ _ c.loop-number-test.false)
