-- The values that the boxes of a stock begin with.
use Rattle.std.specs.Prelude.{[], ◌∷◌}
use Rattle.tg_model.specs.declared.law.Law.TheVariants as law
use Rattle.tg_model.specs.declared.value.Value.{Value}
use Rattle.tg_text.specs.declared.stock.StockItem.{StockItem}
use Rattle.tg_text.specs.declared.stock.StockItem.TheVariants.{Cell, Sum, Max, Log}

abbrev pub value_of_item : StockItem → Value
value_of_item Cell = record { law = law.Cell; state = 0 ∷ [] }
value_of_item Sum = record { law = law.Sum; state = 0 ∷ [] }
value_of_item Max = record { law = law.Max; state = 0 ∷ [] }
value_of_item Log = record { law = law.Log 4; state = [] }
