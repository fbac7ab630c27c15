-- The rights were withdrawn from a store that may have been in the lock, and what is left may have been there too.
use Rattle.std.proofs.Common.{◌∙◌, sym}
use Rattle.std.proofs.lemmas.Result.{IfOk-weaker}
use Rattle.tg_shared.specs.Sessions.{HoldsWhenFree, LockedState}
use Rattle.tg_shared.proofs.Calls.{found}
use Rattle.tg_shares.proofs.SeenKeepings.{has_withdrawn}
use Rattle.tg_shares.proofs.store.MeteredStore.withdraw.Goals as goal

pub returns-clause-withdrawn : goal.returns-clause-withdrawn
returns-clause-withdrawn g c =
    let start = g.L.Round.start in
    let told = c.withdraw-left.ensures in
    let v : LockedState = c.deref_mut.result.now.locked in
    let w : LockedState = c.withdraw-left.new.self.locked in
    let held : HoldsWhenFree start v = found start c.deref.result.now.locked v (λ i. ((c.deref.ensures ∙ sym c.deref_mut.ensures.value) i).locked) c.store.ensures.held in
    let after : HoldsWhenFree start w = found start c.deref-2.result.now.locked w (λ i. (c.deref-2.ensures i).locked) c.store-2.ensures.held in
    IfOk-weaker c.withdraw-left.result _ _ (λ left did. has_withdrawn start v w c.args.keeper.now c.withdraw-left.new.keeper c.args.target c.args.rights c.args.keep.now left.items held after told.sees told.signed did) told.withdrawn
