use Rattle.std.proofs.Common.{◌≡◌, map, replicate}
use Rattle.tg_text.specs.declared.stock.StockItem.TheVariants.{Cell}
use Rattle.tg_payload.specs.Kinds.{law_value}
use Rattle.tgstore.specs.Boxes.{value_of_item}
use Rattle.tgstore.proofs.boxes.new_cells.Given as goal

-- so many cells were made
abbrev pub invariant-loop : goal.invariant-loop
invariant-loop l = map law_value l.cells.items ≡ replicate l.counter (value_of_item Cell)
