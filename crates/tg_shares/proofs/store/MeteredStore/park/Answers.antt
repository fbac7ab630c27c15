-- The call under the lock did it to a store that may have been in the lock, and what is left may have been there too.
use Rattle.std.proofs.Common.{◌∙◌, sym}
use Rattle.std.proofs.lemmas.Result.{IfOk-weaker}
use Rattle.tg_shared.specs.Sessions.{HoldsWhenFree, LockedState}
use Rattle.tg_shared.proofs.Calls.{found}
use Rattle.tg_shares.proofs.SeenKeepings.{has_parked, parked_number}
use Rattle.tg_shares.proofs.store.MeteredStore.park.Goals as goal

pub returns-clause-parked : goal.returns-clause-parked
returns-clause-parked g c =
    let start = g.L.Round.start in
    let told = c.park-parked.ensures in
    let v : LockedState = c.deref_mut.result.now.locked in
    let w : LockedState = c.park-parked.new.self.locked in
    let held : HoldsWhenFree start v = found start c.deref.result.now.locked v (λ i. ((c.deref.ensures ∙ sym c.deref_mut.ensures.value) i).locked) c.store.ensures.held in
    let after : HoldsWhenFree start w = found start c.deref-2.result.now.locked w (λ i. (c.deref-2.ensures i).locked) c.store-2.ensures.held in
    IfOk-weaker c.park-parked.result _ _ (λ answer came. has_parked start c.args.parking v w c.args.keeper.now c.park-parked.new.keeper answer held after told.sees told.signed came) told.answered.comes_of

pub returns-clause-entered : goal.returns-clause-entered
returns-clause-entered g c =
    IfOk-weaker c.park-parked.result _ _ (λ answer came. parked_number c.args.parking c.deref_mut.result.now.locked c.park-parked.new.self.locked c.args.keeper.now c.park-parked.new.keeper answer c.park-parked.ensures.signed came) c.park-parked.ensures.answered.comes_of
