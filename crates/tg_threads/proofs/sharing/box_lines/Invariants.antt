use Rattle.std.proofs.Common.{◌≡◌, ◌++◌, map, drop}
use Rattle.std.specs.Vec.Iter.{into_iter_items}
use Rattle.tg_threads.specs.Boxes.{boxed, boxed_of}
use Rattle.tg_threads.proofs.sharing.box_lines.Given as goal

abbrev pub invariant-loop-line : goal.invariant-loop-line
invariant-loop-line g l =
    boxed l.fn.stock.items l.lines ≡ map boxed_of l.tasks.items ++ boxed (into_iter_items l.left) (drop l.line-index l.lines)
