-- What new boxes store.
use Rattle.std.specs.Prelude.{[], ◌∷◌}
use Rattle.tg_model.specs.declared.law.Law.TheVariants as law
use Rattle.tg_model.specs.declared.value.Value.{Value}
use Rattle.tg_text.specs.declared.stock.StockItem.{StockItem}
use Rattle.tg_text.specs.declared.stock.StockItem.TheVariants.{Cell, Sum, Max, Log}

-- what a new box stores: 0, or no number in a log of four
abbrev pub value_of_box : StockItem → Value
value_of_box Cell = record { law = law.Cell; state = 0 ∷ [] }
value_of_box Sum = record { law = law.Sum; state = 0 ∷ [] }
value_of_box Max = record { law = law.Max; state = 0 ∷ [] }
value_of_box Log = record { law = law.Log 4; state = [] }
