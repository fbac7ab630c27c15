use Rattle.std.proofs.Common.{◌≡◌, ◌∙◌, ◌++◌, ◌∷◌, ◌+◌, [], ap, sym, take}
use Rattle.std.proofs.lemmas.List.{take_more, take_all}
use Rattle.tg_model.specs.Opened.{label_in}
use Rattle.tg_model.proofs.LabelLaws.{label_in-push, more_rights}
use Rattle.tg_journal.proofs.live.with_edges.Goals as goal

pub loop-edge-preserved : goal.loop-edge-preserved
loop-edge-preserved c =
    let es = c.args.edges.now in
    let i = c.loop-edge.edge-index in
    let e = c.edge-item.result in
    let more : take (i + 1) es ≡ take i es ++ e ∷ [] =
    take_more es i e c.loop-edge-test.true ∙ ap (λ y. take i es ++ y ∷ []) (sym c.edge-item.is) in
    record {
      labels = λ x y.
          ap (λ f. f x y) c.in_ok-add.ensures.labels ∙ more_rights e.from e.to e.label x y (c.loop-edge.invariant.labels x y)
          ∙ sym (label_in-push (take i es) e x y) ∙ ap (λ es. label_in es x y) (sym more);
      values = (λ i y. c.in_ok-add.ensures.values y i) ∙ c.loop-edge.invariant.values;
    }

pub returns-clause-labels : goal.returns-clause-labels
returns-clause-labels c = λ j x y.
    (c.loop-edge.invariant.labels x y ∙ ap (λ es. label_in es x y) (take_all _ _ c.loop-edge-test.false)) j
