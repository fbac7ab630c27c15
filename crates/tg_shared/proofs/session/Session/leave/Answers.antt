-- The worker has left a store that may have been in the lock.
use Rattle.std.proofs.Common.{◌∙◌, refl, subst}
use Rattle.std.proofs.lemmas.Result.{on_err_weaker, on_ok_weaker}
use Rattle.tg_store.specs.Store.{IsFaithful, graph_of_store}
use Rattle.tg_shared.specs.Sessions.{HasLeftAtSeen, LockedState, SessionState}
use Rattle.tg_shared.proofs.Calls.{both_told, still}
use Rattle.tg_shared.proofs.Knowing.{kept_all, looked_none}
use Rattle.tg_shared.proofs.Leavings.{retired_left}
use Rattle.tg_shared.proofs.Replies.{IsReady, has_left, is_ready, none_here, refused_ready}
use Rattle.tg_shared.proofs.session.Session.leave.Goals as goal

pub returns-then-retired-clause-refused : goal.returns-then-retired-clause-refused
returns-then-retired-clause-refused g c = looked_none c.args.self.now c.args.self.now (kept_all c.args.self.now) c.retired.ensures.own

pub returns : goal.returns
returns g c =
    let start = g.L.Round.start in
    let old : SessionState = c.args.self.now in
    let ready : SessionState = c.look.new.session in
    let new : SessionState = c.leave-left.new.session in
    let v : LockedState = c.deref_mut-2.result.now in
    let w : LockedState = c.leave-left.new.self in
    let told = c.leave-left.ensures in
    let is_so : IsReady start v old ready = is_ready start c.deref_mut.result.now v old old ready (c.deref_mut-2.ensures.value ∙ c.look.ensures.looks.same) c.look.ensures.looks (kept_all old) c.look.ensures.session in
    let after : IsFaithful w.store = subst (λ (b : LockedState). IsFaithful b.store) c.deref.ensures c.store.ensures.held.faithful in
    record {
      left = both_told c.leave-left.result _ _ _ (HasLeftAtSeen start old new) (λ receipts left number count. has_left start v w old ready new number is_so told.signed receipts left count after) told.noted.receipts told.ended.left (told.ended.count (graph_of_store v.store) refl);
      gone = on_ok_weaker c.leave-left.result (λ receipts. receipts.4 ∙ retired_left ready.retired (graph_of_store v.store) ready.worker) told.noted.receipts;
      refused = on_err_weaker c.leave-left.result (λ keeps. (refused_ready start v old ready new is_so keeps).0) told.noted.refused;
      no_such_worker = none_here c.leave-left.result start v old ready new is_so told.noted.refused (told.ended.no_such_worker (graph_of_store v.store) refl);
      never_full = told.ended.never_full;
      retired = still c.retired.result old.retired c.retired.ensures.is c.if-retired.false;
    }
