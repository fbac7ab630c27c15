use Rattle.std.proofs.Common.{◌∙◌, refl, subst}
use Rattle.std.proofs.lemmas.Result.{IfErr-weaker, IfOk-weaker}
use Rattle.tg_store.specs.Store.{IsFaithful}
use Rattle.tg_shared.specs.Sessions.{LockedState, SessionState}
use Rattle.tg_shared.proofs.Knowing.{looked_none}
use Rattle.tg_shared.proofs.Replies.{IsReady, answered, few_workers, fresh_sees, is_ready, looked_unless, refusals_at_seen, refusals_unasked}
use Rattle.tg_shares.specs.declared.purse.Portion.{Portion}
use Rattle.tg_shares.specs.Shares.{PaysForSpawn}
use Rattle.tg_shares.proofs.Answering.{looked_spawn}
use Rattle.tg_shares.proofs.client.Client.spawn.Goals as goal

pub returns-in-Err-clause-refusals : goal.returns-in-Err-clause-refusals
returns-in-Err-clause-refusals g c = refusals_unasked g.L.Round.start _ c.args.draft c.args.self.now.session _ _ refl c.make_ready.ensures.receipts c.in-Err.ensures.why

pub returns-in-Err-clause-workers_full : goal.returns-in-Err-clause-workers_full
returns-in-Err-clause-workers_full g c = few_workers c.in-Err.why c.in-Err.ensures.why

pub returns-in-Err-clause-refused : goal.returns-in-Err-clause-refused
returns-in-Err-clause-refused g c = λ _. looked_none c.args.self.now.session c.make_ready.new.self c.make_ready.ensures.receipts c.make_ready.ensures.own

pub returns : goal.returns
returns g c =
    let start = g.L.Round.start in
    let old : SessionState = c.args.self.now.session in
    let ready : SessionState = c.look.new.client.session in
    let new : SessionState = c.spawn-spawned.new.client.session in
    let v : LockedState = c.deref_mut-2.result.now.locked in
    let w : LockedState = c.spawn-spawned.new.self.locked in
    let told = c.spawn-spawned.ensures in
    let is_so : IsReady start v old ready = is_ready start c.deref_mut.result.now.locked v old c.make_ready.new.self ready ((λ i. (c.deref_mut-2.ensures.value i).locked) ∙ c.look.ensures.looks.same) c.look.ensures.looks c.make_ready.ensures.receipts c.look.ensures.session in
    let after : IsFaithful w.store = subst (λ (b : LockedState). IsFaithful b.store) (λ i. (c.deref.ensures i).locked) c.store.ensures.held.faithful in
    record {
      receipt = IfOk-weaker c.spawn-spawned.result _ _ (λ fresh made. answered start v w old ready new _ _ _ is_so told.signed made.1.entry told.refusals.opening after refl) told.served;
      fresh = IfOk-weaker c.spawn-spawned.result _ _ (λ fresh made. made.0) told.served;
      fresh_seen = fresh_sees c.spawn-spawned.result v w ready new _ told.signed (IfOk-weaker c.spawn-spawned.result _ _ (λ fresh made. made.1.entry.receipt.5) told.served) told.fresh_seen;
      refusals = refusals_at_seen start v w old ready new _ _ c.spawn-spawned.result is_so told.signed after told.noted told.refusals;
      never_full = told.never_full;
      workers_full = IfErr-weaker c.spawn-spawned.result _ _ (λ refused entered why. answered start v w old ready new _ _ _ is_so told.signed (entered why).0 told.refusals.opening after refl) told.noted.too_many_entry;
      refused = looked_spawn c.spawn-spawned.result _ told.never_full (looked_unless c.spawn-spawned.result start v w.store old ready new is_so told.noted.refused);
      paid = subst (λ (p : Portion). PaysForSpawn p c.spawn-spawned.new.client.purse c.spawn-spawned.result) c.look.ensures.same_purse told.paid;
      retired = λ is. absurd (c.in_default.not-Err _ (c.make_ready.ensures.retired is));
    }
