use Rattle.std.proofs.Common.{◌≡◌, ◌+◌, ◌/◌, ◌%◌, ◌<◌, ◌^◌, List, ℕ, length, arith, refl, subst}
use Rattle.std.specs.Int.{trailing_zeros, w64}
use Rattle.tg_index.specs.Bits.{IsNextFrom, bit_in}
use Rattle.tg_index.proofs.NextLemmas.{next_here, next_later, next_none, unmarked_zero}
use Rattle.tg_index.proofs.number_set.NumberSet.next.Goals as goal

pub returns-then-left-ne0-clause-some : goal.returns-then-left-ne0-clause-some
returns-then-left-ne0-clause-some c =
    let words = c.self.inside.places.words.items in
    let inside : c.args.from / 64 < length words = omega (arith, c.if-word-len.false, c.len.ensures) in
    let fits : c.index.result.now < 2 ^ 64 = omega arith in
    subst (λ (ws : List ℕ). IsNextFrom ws c.args.from (c.args.from + trailing_zeros w64 (c.index.result.now / 2 ^ (c.args.from % 64)))) c.self.view_is (next_here words c.args.from c.index.result.now inside c.index.ensures fits c.if-left-ne0.true)

pub next-requires : goal.next-requires
next-requires c = let short = c.self.invariant.short in let few = c.self.invariant.few in omega arith

pub first_in-requires-clause-some : goal.first_in-requires-clause-some
first_in-requires-clause-some c = (c.self.invariant.exact c.in-Some.later).0 c.in-Some.ensures.some.here

pub first_in-requires-clause-few : goal.first_in-requires-clause-few
first_in-requires-clause-few c = let few = c.self.invariant.few in omega arith

pub returns-in-Some-clause-some : goal.returns-in-Some-clause-some
returns-in-Some-clause-some c =
    let words = c.self.inside.places.words.items in
    let inside : c.args.from / 64 < length words = omega (arith, c.if-word-len.false, c.len.ensures) in
    let next = c.in-Some.ensures.some in
    subst (λ (ws : List ℕ). IsNextFrom ws c.args.from c.first_in.result) c.self.view_is
    (next_later words c.args.from c.index.result.now inside c.index.ensures c.if-left-ne0.false c.in-Some.later (λ w above below. unmarked_zero words _ _ c.self.invariant w (next.before w above below)) next.behind c.first_in.result c.first_in.ensures)

pub returns-in-None-clause-none : goal.returns-in-None-clause-none
returns-in-None-clause-none c = λ _ n above.
    let words = c.self.inside.places.words.items in
    let inside : c.args.from / 64 < length words = omega (arith, c.if-word-len.false, c.len.ensures) in
    subst (λ (ws : List ℕ). bit_in ws n ≡ 0) c.self.view_is
    (next_none words c.args.from c.index.result.now inside c.index.ensures c.if-left-ne0.false (length words) (λ w behind below. unmarked_zero words _ _ c.self.invariant w (c.next.ensures.none c.in-None.is w behind)) refl n above)
