-- The rights were withdrawn from a store that may have been in the lock, and what is left may have been there too.
use Rattle.std.proofs.Common.{◌∙◌, sym}
use Rattle.std.proofs.lemmas.Result.{IfOk-weaker}
use Rattle.tg_shared.specs.Sessions.{HoldsWhenFree, LockedState}
use Rattle.tg_shared.proofs.Calls.{found}
use Rattle.tg_shared.proofs.WithdrawLaws.{has_withdrawn, none_taken}
use Rattle.tg_shared.proofs.keeper.Keeper.withdraw.Goals as goal

pub returns : goal.returns
returns g c =
    let start = g.L.Round.start in
    let told = c.withdraw-left.ensures in
    let v : LockedState = c.deref_mut.result.now in
    let w : LockedState = c.withdraw-left.new.self in
    let held : HoldsWhenFree start v = found start c.deref.result.now v (c.deref.ensures ∙ sym c.deref_mut.ensures.value) c.store.ensures.held in
    let after : HoldsWhenFree start w = found start c.deref-2.result.now w c.deref-2.ensures c.store-2.ensures.held in
    record {
      withdrawn = IfOk-weaker c.withdraw-left.result _ _ (λ left did. has_withdrawn start v w c.args.self.now c.withdraw-left.new.keeper c.args.target c.args.rights c.args.keep.now left.items held after told.sees told.signed did) told.withdrawn;
      refused = none_taken c.withdraw-left.result v w c.args.self.now c.withdraw-left.new.keeper told.sees told.signed told.unchanged;
    }
