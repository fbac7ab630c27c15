use Rattle.std.proofs.Common.{◌∙◌, subst, sym}
use Rattle.tg_graph.specs.Heap.{content_of}
use Rattle.tg_store.specs.Inner.Reaching.{AreReachedAlong, names_sharing}
use Rattle.tg_store.specs.Inner.Withdrawing.{content_left}
use Rattle.tg_store.proofs.HoldingLaws.{if_ok}
use Rattle.tg_store.proofs.store.withdrawal.Withdrawal.holders_after.Goals as goal

pub edges_after-requires : goal.edges_after-requires
edges_after-requires g c =
    let are = subst (AreReachedAlong c.args.heap.now (content_left c.args.self.now (content_of c.args.heap.now))) (sym c.as_slice.ensures.value) c.in_ok-reached.ensures in
    are.placed

pub returns : goal.returns
returns g c =
    let w = c.args.self.now in
    let left = content_left w (content_of c.args.heap.now) in
    let are = subst (AreReachedAlong c.args.heap.now left) (sym c.as_slice.ensures.value) c.in_ok-reached.ensures in
    if_ok c.holders_in.result c.holders_in.ensures
    (λ names is. (c.as_slice.result.now, are, is ∙ (λ i. names_sharing (c.rights.ensures.same i) ((c.as_slice-2.ensures.value ∙ c.in_ok-edges.ensures) i))))
