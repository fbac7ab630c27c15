use Rattle.std.proofs.Common.{◌≡◌, ◌-◌}
use Rattle.tg_graph.specs.Heap.{content_of, subject_names}
use Rattle.tg_store.specs.Inner.Reaching.{IsFoundIn}
use Rattle.tg_store.specs.Inner.Withdrawing.{content_left}
use Rattle.tg_store.proofs.ReachingLaws.{Finds}
use Rattle.tg_store.proofs.store.withdrawal.Withdrawal.find_after.Given as goal

-- no more vertices are found than names were made
abbrev pub decreases-loop-next : goal.decreases-loop-next
decreases-loop-next g l = l.made - l.next

-- what is left of the rows before this one was walked along
abbrev pub invariant-loop-next : goal.invariant-loop-next
invariant-loop-next g l = record {
  found : IsFoundIn l.heap.table.spaces l.found;
  made : l.found.made ≡ l.made;
  finds : Finds (content_left l.self (content_of l.heap)) (subject_names l.heap) l.found l.next;
}
