use Rattle.std.proofs.Common.{◌≡◌, length, take}
use Rattle.tg_index.specs.Slots.{IsIndexOf, listed_row}
use Rattle.tg_index.proofs.RowIndex.of_row.Given as goal

abbrev pub invariant-loop-slot : goal.invariant-loop-slot
invariant-loop-slot l = record {
  index : IsIndexOf l.index (listed_row (take l.slot-index l.row));
  next : l.index.next ≡ l.slot-index;
  len : l.index.len ≡ length l.row;
}
