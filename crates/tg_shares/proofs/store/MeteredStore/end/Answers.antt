-- The worker has left a store that may have been in the lock, and what it left may have been there too.
use Rattle.std.proofs.Common.{◌∙◌, refl, sym}
use Rattle.tg_store.specs.Store.{graph_of_store}
use Rattle.tg_shared.specs.Sessions.{HasEnded, HoldsWhenFree, LockedState}
use Rattle.tg_shared.proofs.Calls.{both_told, found}
use Rattle.tg_shared.proofs.Ending.{counted_more, has_ended, none_ended, none_looked}
use Rattle.tg_shares.proofs.store.MeteredStore.end.Goals as goal

pub returns-clause-ended : goal.returns-clause-ended
returns-clause-ended g c =
    let start = g.L.Round.start in
    let told = c.end-ended.ensures.ended in
    let old = c.args.keeper.now in
    let new = c.end-ended.new.keeper in
    let v : LockedState = c.deref_mut.result.now.locked in
    let w : LockedState = c.end-ended.new.self.locked in
    let held : HoldsWhenFree start v = found start c.deref.result.now.locked v (λ i. ((c.deref.ensures ∙ sym c.deref_mut.ensures.value) i).locked) c.store.ensures.held in
    let after : HoldsWhenFree start w = found start c.deref-2.result.now.locked w (λ i. (c.deref-2.ensures i).locked) c.store-2.ensures.held in
    both_told c.end-ended.result _ _ _ (HasEnded start c.args.worker old new) (λ left _ number count. has_ended start v w old new c.args.worker number held after c.end-ended.ensures.sees c.end-ended.ensures.signed left count)
    told.left told.left (told.count (graph_of_store v.store) refl)

pub returns-clause-entered : goal.returns-clause-entered
returns-clause-entered g c =
    let told = c.end-ended.ensures.ended in
    let v : LockedState = c.deref_mut.result.now.locked in
    both_told c.end-ended.result _ _ _ _ (λ left _ number count. counted_more v c.end-ended.new.self.locked c.args.keeper.now c.end-ended.new.keeper c.args.worker number c.end-ended.ensures.signed left count)
    told.left told.left (told.count (graph_of_store v.store) refl)

pub returns-clause-refused : goal.returns-clause-refused
returns-clause-refused g c =
    none_ended c.end-ended.result c.deref_mut.result.now.locked c.end-ended.new.self.locked c.args.keeper.now c.end-ended.new.keeper c.end-ended.ensures.sees c.end-ended.ensures.signed c.end-ended.ensures.ended.unchanged

pub returns-clause-no_such_worker : goal.returns-clause-no_such_worker
returns-clause-no_such_worker g c =
    let start = g.L.Round.start in
    let told = c.end-ended.ensures.ended in
    let v : LockedState = c.deref_mut.result.now.locked in
    let held : HoldsWhenFree start v = found start c.deref.result.now.locked v (λ i. ((c.deref.ensures ∙ sym c.deref_mut.ensures.value) i).locked) c.store.ensures.held in
    none_looked c.end-ended.result start v c.end-ended.new.self.locked c.args.keeper.now c.end-ended.new.keeper c.args.worker held c.end-ended.ensures.signed told.unchanged (told.no_such_worker (graph_of_store v.store) refl)
