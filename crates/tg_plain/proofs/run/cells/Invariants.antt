use Rattle.std.proofs.Common.{◌≡◌, replicate}
use Rattle.tg_text.specs.declared.stock.StockItem.TheVariants.{Cell}
use Rattle.tg_plain.specs.Boxes.{value_of_box}
use Rattle.tg_plain.proofs.run.cells.Given as goal

abbrev pub invariant-loop : goal.invariant-loop
invariant-loop l = l.values.items ≡ replicate l.counter (value_of_box Cell)
