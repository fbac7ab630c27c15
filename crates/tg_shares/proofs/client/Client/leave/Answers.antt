-- The worker has left a store that may have been in the lock.
use Rattle.std.proofs.Common.{◌≡◌, ◌∙◌, ◌+◌, refl, subst}
use Rattle.std.specs.Prelude.{IfOk}
use Rattle.tg_store.specs.declared.fault.ApplyFault.TheVariants.{NoSuchWorker}
use Rattle.tg_store.specs.Store.{IsFaithful, graph_of_store}
use Rattle.tg_shared.specs.Sessions.{HasLeftAtSeen, LockedState, SessionState}
use Rattle.tg_shared.proofs.Calls.{both_told, still}
use Rattle.tg_shared.proofs.Knowing.{kept_all, looked_none}
use Rattle.tg_shared.proofs.Replies.{IsReady, has_left, is_ready}
use Rattle.tg_shares.specs.declared.fault.LeaveFault.TheVariants.{Store}
use Rattle.tg_shares.specs.declared.purse.Portion.{Portion}
use Rattle.tg_shares.specs.Shares.{LacksToLeave, Pays, entries_alone}
use Rattle.tg_shares.proofs.Answering.{leave_lacks, leave_nobody, looked_leave}
use Rattle.tg_shares.proofs.client.Client.leave.Goals as goal

pub returns-then-retired-clause-refused : goal.returns-then-retired-clause-refused
returns-then-retired-clause-refused g c = (looked_none c.args.self.now.session c.args.self.now.session (kept_all c.args.self.now.session) c.retired.ensures.own, refl)

pub returns : goal.returns
returns g c =
    let start = g.L.Round.start in
    let old : SessionState = c.args.self.now.session in
    let ready : SessionState = c.look.new.client.session in
    let new : SessionState = c.leave-left.new.client.session in
    let v : LockedState = c.deref_mut-2.result.now.locked in
    let w : LockedState = c.leave-left.new.self.locked in
    let told = c.leave-left.ensures in
    let is_so : IsReady start v old ready = is_ready start c.deref_mut.result.now.locked v old old ready ((λ i. (c.deref_mut-2.ensures.value i).locked) ∙ c.look.ensures.looks.same) c.look.ensures.looks (kept_all old) c.look.ensures.session in
    let after : IsFaithful w.store = subst (λ (b : LockedState). IsFaithful b.store) (λ i. (c.deref.ensures i).locked) c.store.ensures.held.faithful in
    let leaves = told.leaves in
    let same_purse : Type 0 = c.leave-left.new.client.purse ≡ c.look.new.client.purse in
    record {
      left = both_told c.leave-left.result _ _ _ (HasLeftAtSeen start old new) (λ receipts left number count. has_left start v w old ready new number is_so told.signed receipts left count after) leaves.receipts leaves.left (leaves.count (graph_of_store v.store) refl);
      paid = subst (λ (p : Portion). IfOk c.leave-left.result (λ count. Pays (entries_alone (count + 1)) p c.leave-left.new.client.purse)) c.look.ensures.same_purse leaves.paid;
      refused = looked_leave start v w.store old ready new is_so c.leave-left.result (λ same. same ∙ c.look.ensures.same_purse) leaves.refused;
      lacks = leave_lacks start v w.store old ready new is_so same_purse c.leave-left.result c.args.self.now.purse leaves.refused
          (λ why is. let lacks = leaves.lacks (graph_of_store v.store) why refl is in (subst (λ (p : Portion). LacksToLeave (graph_of_store v.store) ready.worker p) c.look.ensures.same_purse lacks.0, lacks.1));
      no_such_worker = leave_nobody start v w.store old ready new is_so same_purse c.leave-left.result (Store NoSuchWorker) leaves.refused (λ is. (leaves.no_such_worker (graph_of_store v.store) refl).0 is);
      never_full = leaves.never_full;
      retired = still c.retired.result old.retired c.retired.ensures.is c.if-retired.false;
    }
