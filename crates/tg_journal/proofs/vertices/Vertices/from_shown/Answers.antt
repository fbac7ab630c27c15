use Rattle.std.proofs.Common.{◌≡◌, ◌∙◌, ◌++◌, ◌∷◌, ◌+◌, ◌==◌, [], ℕ, List, Option, Some, cond, ap, sym, subst, take}
use Rattle.std.proofs.lemmas.List.{take_more, take_all}
use Rattle.tg_model.specs.declared.value.Value.{Value}
use Rattle.tg_snapshot.specs.declared.vertex.ShownVertex.{ShownVertex}
use Rattle.tg_snapshot.specs.Snapshot.{value_shown}
use Rattle.tg_snapshot.proofs.RisingLaws.{RiseFrom, RiseFrom-take, rise, value_shown-push}
use Rattle.tg_journal.proofs.vertices.Vertices.from_shown.Goals as goal

pub loop-vertex-preserved : goal.loop-vertex-preserved
loop-vertex-preserved c =
    let vs : List ShownVertex = c.args.shown.now in
    let i : ℕ = c.loop-vertex.vertex-index in
    let v : ShownVertex = c.vertex-item.result in
    let more : take (i + 1) vs ≡ take i vs ++ v ∷ [] =
    take_more vs i v c.loop-vertex-test.true ∙ ap (λ (u : ShownVertex). take i vs ++ u ∷ []) (sym c.vertex-item.is) in
    record {
      values = λ y.
          c.in_ok-put.ensures.values y
          ∙ ap (λ (o : Option Value). cond (y == v.name) (Some c.in_ok-copy.field-0) o) (c.loop-vertex.invariant.values y)
          ∙ ap (λ (u : Value). cond (y == v.name) (Some u) (value_shown (take i vs) y)) c.in_ok-copy.ensures
          ∙ sym (value_shown-push 0 (take i vs) v y (subst (RiseFrom 0) more (RiseFrom-take 0 vs (i + 1) (rise vs c.requires))))
          ∙ ap (λ (us : List ShownVertex). value_shown us y) (sym more);
      labels = λ x y. ap (λ f. f x y) c.in_ok-put.ensures.labels ∙ c.loop-vertex.invariant.labels x y;
    }

pub returns-clause-values : goal.returns-clause-values
returns-clause-values c = λ y. c.loop-vertex.invariant.values y ∙ ap (λ (vs : List ShownVertex). value_shown vs y) (take_all _ _ c.loop-vertex-test.false)
