use Rattle.std.proofs.Common.{◌≡◌}
use Rattle.tg_graph.specs.Heap.{content_of}
use Rattle.tg_store.specs.Inner.Reaching.{IsFoundIn}
use Rattle.tg_store.specs.Inner.Withdrawing.{content_left}
use Rattle.tg_store.proofs.LeftLaws.{FollowsLeft}
use Rattle.tg_store.proofs.store.withdrawal.Withdrawal.follow_row.Given as goal

-- of the edges before this one those that are left were followed
abbrev pub invariant-loop-edge : goal.invariant-loop-edge
invariant-loop-edge g l = record {
  found : IsFoundIn l.heap.table.spaces l.found;
  made : l.found.made ≡ l.fn.found.made;
  follows : FollowsLeft (content_left l.self (content_of l.heap)).label l.vertex.0 l.edge-items l.fn.found l.found l.edge-index;
}
