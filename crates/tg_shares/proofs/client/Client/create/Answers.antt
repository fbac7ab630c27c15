use Rattle.std.proofs.Common.{◌∙◌, refl, subst}
use Rattle.std.proofs.lemmas.Result.{IfOk-weaker}
use Rattle.tg_store.specs.Store.{IsFaithful}
use Rattle.tg_shared.specs.Sessions.{LockedState, SessionState}
use Rattle.tg_shared.proofs.Knowing.{looked_none}
use Rattle.tg_shared.proofs.Replies.{IsReady, answered, is_ready, looked_unless, refusals_at_seen, refusals_unasked}
use Rattle.tg_shares.specs.declared.purse.Portion.{Portion}
use Rattle.tg_shares.specs.Shares.{PaysFor, one_vertex}
use Rattle.tg_shares.proofs.Answering.{looked_create}
use Rattle.tg_shares.proofs.client.Client.create.Goals as goal

pub returns-in-Err-clause-refusals : goal.returns-in-Err-clause-refusals
returns-in-Err-clause-refusals g c = refusals_unasked g.L.Round.start _ c.args.draft c.args.self.now.session _ _ refl c.make_ready.ensures.receipts c.in-Err.ensures.why

pub returns-in-Err-clause-refused : goal.returns-in-Err-clause-refused
returns-in-Err-clause-refused g c = looked_none c.args.self.now.session c.make_ready.new.self c.make_ready.ensures.receipts c.make_ready.ensures.own

pub returns : goal.returns
returns g c =
    let start = g.L.Round.start in
    let old : SessionState = c.args.self.now.session in
    let ready : SessionState = c.look.new.client.session in
    let new : SessionState = c.create-created.new.client.session in
    let v : LockedState = c.deref_mut-2.result.now.locked in
    let w : LockedState = c.create-created.new.self.locked in
    let told = c.create-created.ensures in
    let is_so : IsReady start v old ready = is_ready start c.deref_mut.result.now.locked v old c.make_ready.new.self ready ((λ i. (c.deref_mut-2.ensures.value i).locked) ∙ c.look.ensures.looks.same) c.look.ensures.looks c.make_ready.ensures.receipts c.look.ensures.session in
    let after : IsFaithful w.store = subst (λ (b : LockedState). IsFaithful b.store) (λ i. (c.deref.ensures i).locked) c.store.ensures.held.faithful in
    record {
      receipt = IfOk-weaker c.create-created.result _ _ (λ name made. answered start v w old ready new _ _ _ is_so told.signed made.entry told.refusals.opening after refl) told.served;
      refusals = refusals_at_seen start v w old ready new _ _ c.create-created.result is_so told.signed after told.noted told.refusals;
      never_full = told.never_full;
      no_workers_full = told.no_workers_full;
      refused = looked_create c.create-created.result _ told.never_full told.no_workers_full (looked_unless c.create-created.result start v w.store old ready new is_so told.noted.refused);
      paid = subst (λ (p : Portion). PaysFor one_vertex p c.create-created.new.client.purse c.create-created.result) c.look.ensures.same_purse told.paid;
      retired = λ is. absurd (c.in_default.not-Err _ (c.make_ready.ensures.retired is));
    }
