use Rattle.std.proofs.Common.{◌∙◌, refl, subst}
use Rattle.std.proofs.lemmas.Result.{on_ok_weaker}
use Rattle.tg_model.specs.declared.command.Deed.TheVariants.{Plain}
use Rattle.tg_store.specs.Store.{IsFaithful, graph_of_store}
use Rattle.tg_shared.specs.Sessions.{LockedState, SessionState}
use Rattle.tg_shared.proofs.Calls.{still, worker_not_full}
use Rattle.tg_shared.proofs.Knowing.{kept_all, looked_none}
use Rattle.tg_shared.proofs.Replies.{IsReady, answered, is_ready}
use Rattle.tg_shares.specs.declared.purse.Portion.{Portion}
use Rattle.tg_shares.specs.Shares.{PaysFor, one_entry}
use Rattle.tg_shares.proofs.Answering.{call_refused}
use Rattle.tg_shares.proofs.client.Client.call.Goals as goal

pub returns-then-retired-clause-refused : goal.returns-then-retired-clause-refused
returns-then-retired-clause-refused g c = record {
  looked = looked_none c.args.self.now.session c.args.self.now.session (kept_all c.args.self.now.session) c.retired.ensures.own;
  no_such_worker = λ _. c.retired.ensures.gone c.if-retired.true;
  full = λ is. absurd (worker_not_full is);
}

pub returns : goal.returns
returns g c =
    let start = g.L.Round.start in
    let old : SessionState = c.args.self.now.session in
    let ready : SessionState = c.look.new.client.session in
    let new : SessionState = c.apply-answered.new.client.session in
    let v : LockedState = c.deref_mut-2.result.now.locked in
    let w : LockedState = c.apply-answered.new.self.locked in
    let told = c.apply-answered.ensures in
    let is_so : IsReady start v old ready = is_ready start c.deref_mut.result.now.locked v old c.make_room.new.self ready ((λ i. (c.deref_mut-2.ensures.value i).locked) ∙ c.look.ensures.looks.same) c.look.ensures.looks c.in_ok-make_room.ensures.room.receipts c.look.ensures.session in
    let after : IsFaithful w.store = subst (λ (b : LockedState). IsFaithful b.store) (λ i. (c.deref.ensures i).locked) c.store.ensures.held.faithful in
    record {
      receipt = on_ok_weaker c.apply-answered.result (λ records. (_, answered start v w old ready new (Plain c.args.command) _ _ is_so told.signed records told.kept.opening after refl)) (told.served.entry (graph_of_store v.store) refl);
      refused = call_refused c.apply-answered.result start v w.store old ready new c.args.command is_so told.served;
      paid = subst (λ (p : Portion). PaysFor one_entry p c.apply-answered.new.client.purse c.apply-answered.result) c.look.ensures.same_purse told.paid;
      retired = still c.retired.result old.retired c.retired.ensures.is c.if-retired.false;
    }
