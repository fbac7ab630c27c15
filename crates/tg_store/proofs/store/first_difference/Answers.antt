use Rattle.std.proofs.Common.{◌≡◌, ◌≢◌, ◌∙◌, ℕ, false, true, ◌+◌, ◌<◌, List, [], ◌∷◌, ◌++◌, length, get_or, take, refl, sym, ap, arith}
use Rattle.std.proofs.lemmas.List.{take_more}
use Rattle.tg_model.specs.declared.value.Value.{Value}
use Rattle.tg_store.proofs.DifferenceLaws.{alike, differs_at, longer, past_the_end}
use Rattle.tg_store.proofs.Apart.{false_not_true}
use Rattle.tg_store.proofs.store.first_difference.Goals as goal

-- two lists that agree before a place and at it agree as far as the next
agree_further : (xs ys : List Value) (at : ℕ) (x y : Value) → at < length xs → at < length ys → x ≡ get_or xs at x → y ≡ get_or ys at y → y ≡ x → take at xs ≡ take at ys → take (at + 1) xs ≡ take (at + 1) ys
agree_further xs ys at x y here there x_is y_is same before =
    take_more xs at x here ∙ ap (λ (front : List Value). front ++ get_or xs at x ∷ []) before
    ∙ ap (λ (value : Value). take at ys ++ value ∷ []) (sym x_is ∙ sym same ∙ y_is) ∙ sym (take_more ys at y there)

pub loop-at-preserved : goal.loop-at-preserved
loop-at-preserved g c =
    let found = c.in-Some.ensures.lookup in
    let there : c.loop-at.at < length c.args.drafts.now = found.3.0 in
    let same = sym c.value.ensures.same ∙ c.if-not-same.ensures.0 refl in
    record {
      room = omega (arith, there);
      same = agree_further c.args.values.now c.args.drafts.now c.loop-at.at c.index-values-at.result c.in-Some.draft.now c.loop-at-test.true there c.index-values-at.is found.1 same c.loop-at.invariant.same;
    }

pub returns-in_default : goal.returns-in_default
returns-in_default g c = past_the_end c.args.values.now c.args.drafts.now c.loop-at.at c.loop-at-test.true (omega (arith, c.in_default.ensures.lookup)) c.loop-at.invariant.same

pub returns-then-not-same : goal.returns-then-not-same
returns-then-not-same g c =
    let found = c.in-Some.ensures.lookup in
    let other : c.in-Some.draft.now ≢ c.index-values-at.result = λ same. let both : false ≡ true = sym c.if-not-same.true ∙ c.same.ensures.1 (c.value.ensures.same ∙ same) in false_not_true both in
    differs_at c.args.values.now c.args.drafts.now c.loop-at.at c.index-values-at.result c.in-Some.draft.now c.loop-at-test.true found.3.0 c.index-values-at.is found.1 other c.loop-at.invariant.same

pub returns-then-values-drafts : goal.returns-then-values-drafts
returns-then-values-drafts g c = longer c.args.values.now c.args.drafts.now c.loop-at.at c.loop-at-test.false c.loop-at.auto.at-end c.if-values-drafts.true c.loop-at.invariant.same

pub returns-else-values-drafts : goal.returns-else-values-drafts
returns-else-values-drafts g c = alike c.args.values.now c.args.drafts.now c.loop-at.at c.loop-at-test.false c.if-values-drafts.false c.loop-at.invariant.same
