use Rattle.tg_graph.specs.Heap.{content_of}
use Rattle.tg_store.specs.Inner.Withdrawing.{content_left}
use Rattle.tg_store.proofs.SavedLaws.{reached_sorted}
use Rattle.tg_store.proofs.store.withdrawal.Withdrawal.reached_after.Goals as goal

pub returns : goal.returns
returns g c =
    reached_sorted c.args.heap.now c.in_ok-found.found c.by_name.result.items c.in_ok-found.ensures.found c.by_name.ensures.permutation
    (content_left c.args.self.now (content_of c.args.heap.now)) c.by_name.ensures.sorted c.in_ok-found.ensures.names
