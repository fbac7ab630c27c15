use Rattle.std.proofs.Common.{◌≡◌, take}
use Rattle.tg_graph.specs.Heap.{content_of}
use Rattle.tg_store.specs.Holding.{common}
use Rattle.tg_store.specs.Inner.Reaching.{edges_over}
use Rattle.tg_store.proofs.store.withdrawal.Withdrawal.removals.Given as goal

-- what the givers before this one give up
abbrev pub invariant-loop-giver : goal.invariant-loop-giver
invariant-loop-giver g l = l.removals.items ≡ edges_over (λ a b. common l.self.rights ((content_of l.heap).label a b)) l.self.target (take l.giver-index l.giver-items)
