use Rattle.std.proofs.Common.{◌≡◌, ◌∙◌, List, [], ◌∷◌, ◌++◌, ap}
use Rattle.std.proofs.lemmas.List.{replicate_more}
use Rattle.tg_model.specs.declared.value.Value.{Value}
use Rattle.tg_text.specs.declared.stock.StockItem.TheVariants.{Cell}
use Rattle.tg_plain.specs.Boxes.{value_of_box}
use Rattle.tg_plain.proofs.run.cells.Goals as goal

pub loop-preserved : goal.loop-preserved
loop-preserved c =
    let cell : Value = value_of_box Cell in
    c.in_ok-push.ensures.items ∙ ap (λ (x : Value). c.loop.values.items ++ x ∷ []) c.value_of.ensures
    ∙ ap (λ (values : List Value). values ++ cell ∷ []) c.loop.invariant ∙ replicate_more c.loop.counter cell
