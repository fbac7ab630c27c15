-- A collection from the heap's own roots is one from the whole rows.
use Rattle.std.proofs.Common.{List, subst}
use Rattle.std.proofs.lemmas.Result.{err_from_is_err_and}
use Rattle.tg_space.specs.SpaceTable.{SpaceTable}
use Rattle.tg_space.specs.Collection.{IsCollection, collected_in}
use Rattle.tg_space.specs.declared.root.Root.{Root}
use Rattle.tg_graph.specs.Heap.{roots_of}
use Rattle.tg_store.specs.Room.{LacksRoomToCollect}
use Rattle.tg_store.specs.Store.{StoreState}
use Rattle.tg_store.proofs.RoomLaws.{lacks_from}
use Rattle.tg_store.proofs.store.Store.copy_reached.Goals as goal

pub returns-clause-collected : goal.returns-clause-collected
returns-clause-collected g c =
    let kind = c.args.kind in
    let made = collected_in c.in_ok-copied.copied in
    let heap = c.self.inside.heap in
    let over_heap = subst (λ (t : SpaceTable). IsCollection kind t.spaces c.deref.result.now made) c.spaces.ensures c.in_ok-copied.ensures.collected in
    let collected = subst (λ (roots : List Root). IsCollection kind heap.table.spaces roots made) c.deref.ensures.value over_heap in
    subst (λ (state : StoreState). IsCollection kind state.heap.table.spaces (roots_of kind state.heap) made) c.self.view_is ((c.in_ok-roots.ensures.roots made).1 collected)

pub returns-in_err-copied-clause-full : goal.returns-in_err-copied-clause-full
returns-in_err-copied-clause-full g c =
    let kind = c.args.kind in
    let heap = c.self.inside.heap in
    let p = err_from_is_err_and c.from_residual-in_err-copied.result c.from_residual-in_err-copied.ensures.1 in
    rw (p.1, p.2) (λ is.
    subst (λ (state : StoreState). LacksRoomToCollect kind 1 state.heap) c.self.view_is
    (lacks_from kind 1 heap _ c.deref.result.now c.in_ok-roots.roots.items c.spaces.ensures c.deref.ensures.value c.in_ok-roots.ensures.targets (c.in_err-copied.ensures.full is)))
