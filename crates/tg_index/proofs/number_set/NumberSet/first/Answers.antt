use Rattle.std.proofs.Common.{◌≡◌, ℕ, List, arith, subst}
use Rattle.tg_index.specs.Bits.{IsFirstOf, bit_in}
use Rattle.tg_index.proofs.BitLemmas.{first_marked, none_marked}
use Rattle.tg_index.proofs.number_set.NumberSet.first.Goals as goal

pub first_in-word-requires-clause-some : goal.first_in-word-requires-clause-some
first_in-word-requires-clause-some c = let le = c.self.invariant.within in c.self.invariant.lowest (omega (arith, le, c.if-self-len.false, c.len.ensures))

pub first_in-word-requires-clause-few : goal.first_in-word-requires-clause-few
first_in-word-requires-clause-few c = let short = c.self.invariant.short in let few = c.self.invariant.few in omega arith

pub first_in-requires-clause-some : goal.first_in-requires-clause-some
first_in-requires-clause-some c = (c.self.invariant.exact c.first_in-word.result).0 c.first_in-word.ensures.here

pub first_in-requires-clause-few : goal.first_in-requires-clause-few
first_in-requires-clause-few c = let few = c.self.invariant.few in omega arith

pub returns-then-self-len-clause-none : goal.returns-then-self-len-clause-none
returns-then-self-len-clause-none c = λ _ n. subst (λ (words : List ℕ). bit_in words n ≡ 0) c.self.view_is (none_marked _ _ _ c.self.invariant (omega (arith, c.if-self-len.true, c.len.ensures)) n)

pub returns-clause-some : goal.returns-clause-some
returns-clause-some c =
    subst (λ (words : List ℕ). IsFirstOf words c.first_in.result) c.self.view_is (first_marked _ _ _ c.self.invariant c.first_in-word.result c.first_in.result c.first_in-word.ensures c.first_in.ensures)
