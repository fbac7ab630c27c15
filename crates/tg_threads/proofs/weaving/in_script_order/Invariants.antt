use Rattle.std.proofs.Common.{map, take}
use Rattle.tg_threads.proofs.OrderLaws.{IsSeen}
use Rattle.tg_threads.proofs.weaving.in_script_order.Given as goal

abbrev pub invariant-loop-line : goal.invariant-loop-line
invariant-loop-line g l = IsSeen l.names (map (λ f. f.told.items) l.finished) (take l.line-index l.lines) l.told.items l.seen.items
