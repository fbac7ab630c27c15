use Rattle.std.proofs.Common.{◌≡◌, map, take}
use Rattle.tgstore.specs.Boxes.{value_of_item}
use Rattle.tgstore.proofs.boxes.new_drafts.Given as goal

-- the drafts of the first so many items were made
abbrev pub invariant-loop-item : goal.invariant-loop-item
invariant-loop-item l = l.drafts.items ≡ map value_of_item (take l.item-index l.items)
