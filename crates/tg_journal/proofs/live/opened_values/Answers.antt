use Rattle.std.proofs.Common.{◌≡◌, ◌∙◌, ◌++◌, ◌∷◌, ◌+◌, ◌==◌, [], ℕ, Option, Some, cond, length, length-take, ap, sym, take, arith}
use Rattle.std.specs.Prelude.{slice_get}
use Rattle.std.proofs.lemmas.List.{take_more}
use Rattle.tg_model.specs.declared.value.Value.{Value}
use Rattle.tg_model.specs.Rules.{with_value}
use Rattle.tg_model.proofs.PlainLaws.{slice_get-push}
use Rattle.tg_journal.proofs.live.opened_values.Goals as goal

pub loop-name-preserved : goal.loop-name-preserved
loop-name-preserved c =
    let vs = c.values-value-items.result.now in
    let i = c.loop-name.name in
    let v = c.value-item.result in
    let more : take (i + 1) vs ≡ take i vs ++ v ∷ [] =
    take_more vs i v c.loop-name-test.true ∙ ap (λ u. take i vs ++ u ∷ []) (sym c.value-item.is) in
    let long : length (take i vs) ≡ i = omega (arith, length-take i vs, c.loop-name-test.true) in
    record {
      values = λ y.
          c.in_ok-put.ensures.values y
          ∙ ap (λ (o : Option Value). cond (y == i) (Some c.in_ok-copy.field-0) o) (c.loop-name.invariant.values y)
          ∙ ap (λ (u : Value). with_value (slice_get (take i vs)) i u y) c.in_ok-copy.ensures
          ∙ ap (λ (n : ℕ). with_value (slice_get (take i vs)) n v y) (sym long)
          ∙ sym (slice_get-push (take i vs) v y)
          ∙ ap (λ vs. slice_get vs y) (sym more);
      labels = λ x y. ap (λ f. f x y) c.in_ok-put.ensures.labels ∙ c.loop-name.invariant.labels x y;
    }
