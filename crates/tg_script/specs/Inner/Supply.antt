-- The values of the payloads that are left of a stock.
use Rattle.std.specs.Prelude.{List, ◌++◌, reverse}
use Rattle.std.specs.Option.{option_to_list}
use Rattle.tg_model.specs.declared.value.Value.{Value}
use Rattle.tg_script.specs.declared.supply.Supply.{Supply}

-- one that was put back is in front, and the last of the rest is next
abbrev pub values_left : {P : Type 0} → Supply P → List Value
values_left s = option_to_list s.front ++ reverse s.rest.items
