-- The worker has left a store that may have been in the lock, and what it left may have been there too.
use Rattle.std.proofs.Common.{◌∙◌, refl, sym}
use Rattle.tg_store.specs.Store.{graph_of_store}
use Rattle.tg_shared.specs.Sessions.{HasEnded, HoldsWhenFree, LockedState}
use Rattle.tg_shared.proofs.Calls.{both_told, found}
use Rattle.tg_shared.proofs.Ending.{counted_more, has_ended, none_ended, none_looked}
use Rattle.tg_shared.proofs.keeper.Keeper.end.Goals as goal

pub returns : goal.returns
returns g c =
    let start = g.L.Round.start in
    let told = c.end-ended.ensures.ended in
    let noted = c.end-ended.ensures.signed in
    let v : LockedState = c.deref_mut.result.now in
    let w : LockedState = c.end-ended.new.self in
    let held : HoldsWhenFree start v = found start c.deref.result.now v (c.deref.ensures ∙ sym c.deref_mut.ensures.value) c.store.ensures.held in
    let after : HoldsWhenFree start w = found start c.deref-2.result.now w c.deref-2.ensures c.store-2.ensures.held in
    record {
      ended = both_told c.end-ended.result _ _ _ (HasEnded start c.args.worker c.args.self.now c.end-ended.new.keeper)
          (λ left _ number count. has_ended start v w c.args.self.now c.end-ended.new.keeper c.args.worker number held after c.end-ended.ensures.sees noted left count) told.left told.left (told.count (graph_of_store v.store) refl);
      entered = both_told c.end-ended.result _ _ _ _ (λ left _ number count. counted_more v w c.args.self.now c.end-ended.new.keeper c.args.worker number noted left count) told.left told.left (told.count (graph_of_store v.store) refl);
      refused = none_ended c.end-ended.result v w c.args.self.now c.end-ended.new.keeper c.end-ended.ensures.sees noted told.unchanged;
      no_such_worker = none_looked c.end-ended.result start v w c.args.self.now c.end-ended.new.keeper c.args.worker held noted told.unchanged (told.no_such_worker (graph_of_store v.store) refl);
      never_full = told.never_full;
    }
