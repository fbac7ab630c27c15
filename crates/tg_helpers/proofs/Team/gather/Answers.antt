-- How few blocks are left, and what is settled.
use Rattle.std.proofs.Common.{◌≤◌, ◌+◌, List, subst}
use Rattle.std.proofs.lemmas.Result.{err_from_is_err_and}
use Rattle.tg_space.specs.SpaceTable.{SpaceTable, kept_blocks}
use Rattle.tg_space.specs.Collection.{AreFewBlocks, IsCollection, collected_in, copies_in, used_cells}
use Rattle.tg_space.specs.declared.root.Root.{Root}
use Rattle.tg_store.specs.Collecting.{IsSwept}
use Rattle.tg_store.specs.Room.{LacksRoomToCollect}
use Rattle.tg_store.specs.Store.{HasFewBlocks, StoreState}
use Rattle.tg_store.proofs.BlockLaws.{few_left}
use Rattle.tg_store.proofs.HistoryLaws.{history_done, history_refused, history_same}
use Rattle.tg_store.proofs.RoomLaws.{lacks_from}
use Rattle.tg_helpers.proofs.Team.gather.Goals as goal

pub returns-clause-blocks : goal.returns-clause-blocks
returns-clause-blocks g c =
    let made = collected_in c.in_ok-copied.copied in
    let kind = c.args.kind in
    let few = subst (λ (t : SpaceTable). AreFewBlocks t.limits.space_blocks (kept_blocks kind t.spaces) c.args.helpers made) c.spaces.ensures c.in_ok-copied.ensures.collects.few in
    let moved = subst (λ (t : SpaceTable). copies_in made.forward 0 + copies_in made.forward 1 ≤ used_cells kind t.spaces) c.spaces.ensures c.in_ok-copied.ensures.collects.moved in
    let adopted = c.in_ok-settle.ensures.adopted in
    let before = c.take_spare-spare.new.self.heap in
    let after = c.settle.new.self.heap.table in
    subst (λ (state : StoreState). HasFewBlocks kind c.args.helpers state.heap.table after) c.take_spare-spare.ensures
    (few_left c.args.helpers before.table after made kind few moved adopted.full before adopted.nursery)

pub returns-clause-swept : goal.returns-clause-swept
returns-clause-swept g c =
    subst (λ (state : StoreState). IsSwept c.args.kind state c.settle.new.self c.in_ok-settle.field-0) c.take_spare-spare.ensures c.in_ok-settle.ensures.swept

pub settle-requires : goal.settle-requires
settle-requires g c =
    let kind = c.args.kind in
    let made = collected_in c.in_ok-copied.copied in
    let heap = c.take_spare-spare.new.self.heap in
    let over_heap : IsCollection kind heap.table.spaces c.deref.result.now made =
    subst (λ (t : SpaceTable). IsCollection kind t.spaces c.deref.result.now made) c.spaces.ensures c.in_ok-copied.ensures.collects.collected in
    let collected : IsCollection kind heap.table.spaces c.in_ok-roots.roots.items made =
    subst (λ (roots : List Root). IsCollection kind heap.table.spaces roots made) c.deref.ensures.value over_heap in
    (c.in_ok-roots.ensures.roots made).1 collected

pub returns-in_err-copied-clause-full : goal.returns-in_err-copied-clause-full
returns-in_err-copied-clause-full g c is =
    let kind = c.args.kind in
    let heap = c.take_spare-spare.new.self.heap in
    let p = err_from_is_err_and c.from_residual-in_err-copied.result c.from_residual-in_err-copied.ensures.1 in
    let told = p.1 in let why = p.2 in
    subst (λ (state : StoreState). LacksRoomToCollect kind c.args.helpers state.heap) c.take_spare-spare.ensures
    (lacks_from kind c.args.helpers heap _ c.deref.result.now c.in_ok-roots.roots.items c.spaces.ensures c.deref.ensures.value c.in_ok-roots.ensures.targets (c.in_err-copied.ensures.collects.full cc))

pub returns-clause-history : goal.returns-clause-history
returns-clause-history g c = history_done _ _ _ _ _ c.take_spare-spare.ensures c.settle.ensures.history

pub returns-in_err-roots-clause-history : goal.returns-in_err-roots-clause-history
returns-in_err-roots-clause-history g c = let given = err_from_is_err_and c.from_residual.result c.from_residual.ensures.1 in history_same _ _ _ _ c.take_spare-spare.ensures given.1

pub returns-in_err-copied-clause-history : goal.returns-in_err-copied-clause-history
returns-in_err-copied-clause-history g c = let given = err_from_is_err_and c.from_residual-in_err-copied.result c.from_residual-in_err-copied.ensures.1 in history_same _ _ _ _ c.take_spare-spare.ensures given.1

pub returns-in_err-settle-clause-history : goal.returns-in_err-settle-clause-history
returns-in_err-settle-clause-history g c =
    let given = err_from_is_err_and c.from_residual-in_err-settle.result c.from_residual-in_err-settle.ensures.1 in
    history_refused _ _ _ _ _ _ c.take_spare-spare.ensures given.1 c.in_err-settle.ensures.history
