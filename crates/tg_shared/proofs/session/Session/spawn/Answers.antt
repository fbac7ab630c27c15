use Rattle.std.proofs.Common.{◌≡◌, ◌∙◌, refl, rules, sym, subst}
use Rattle.std.proofs.lemmas.Result.{IfErr-weaker, IfOk-weaker}
use Rattle.tg_store.specs.Store.{IsFaithful}
use Rattle.tg_shared.specs.Sessions.{LockedState, MayNote, SessionState}
use Rattle.tg_shared.proofs.Knowing.{looked_none}
use Rattle.tg_shared.proofs.Replies.{IsReady, answered, few_workers, fresh_sees, is_ready, looked_unless, refusals_at_seen, refusals_unasked}
use Rattle.tg_shared.proofs.session.Session.spawn.Goals as goal

pub returns-in-Err-clause-refusals : goal.returns-in-Err-clause-refusals
returns-in-Err-clause-refusals g c = refusals_unasked g.L.Round.start _ c.args.draft c.args.self.now _ _ refl c.make_ready.ensures.receipts c.in-Err.ensures.why

pub returns-in-Err-clause-workers_full : goal.returns-in-Err-clause-workers_full
returns-in-Err-clause-workers_full g c = few_workers c.in-Err.why c.in-Err.ensures.why

pub returns-in-Err-clause-refused : goal.returns-in-Err-clause-refused
returns-in-Err-clause-refused g c = λ _ _. looked_none c.args.self.now c.make_ready.new.self c.make_ready.ensures.receipts c.make_ready.ensures.own

pub spawn-spawned-requires : goal.spawn-spawned-requires
spawn-spawned-requires g c =
    let state : c.as_slice.result.now ≡ c.args.draft.state = search rules in
    record {
      notable = subst (λ (s : SessionState). MayNote s c.args.draft.state) (sym c.look.ensures.session) (record { room = c.in_default.ensures.notable.room; copy = c.in_default.ensures.notable.copy ∙ state });
    }

pub returns : goal.returns
returns g c =
    let start = g.L.Round.start in
    let v : LockedState = c.deref_mut-2.result.now in
    let w : LockedState = c.spawn-spawned.new.self in
    let old : SessionState = c.args.self.now in
    let ready : SessionState = c.look.new.session in
    let told = c.spawn-spawned.ensures in
    let opening = told.refusals.opening in
    let is_so : IsReady start v old ready = is_ready start c.deref_mut.result.now v old c.make_ready.new.self ready (c.deref_mut-2.ensures.value ∙ c.look.ensures.looks.same) c.look.ensures.looks c.make_ready.ensures.receipts c.look.ensures.session in
    let after : IsFaithful w.store = subst (λ (b : LockedState). IsFaithful b.store) c.deref.ensures c.store.ensures.held.faithful in
    record {
      receipt = IfOk-weaker c.spawn-spawned.result _ _ (λ fresh made. answered start v w old ready c.spawn-spawned.new.session _ _ _ is_so told.signed made.1.entry opening after refl) told.served;
      fresh_seen = fresh_sees c.spawn-spawned.result v w ready c.spawn-spawned.new.session _ told.signed (IfOk-weaker c.spawn-spawned.result _ _ (λ fresh made. made.1.entry.receipt.5) told.served) told.fresh_seen;
      fresh = IfOk-weaker c.spawn-spawned.result _ _ (λ fresh made. made.0) told.served;
      refusals = refusals_at_seen start v w old ready c.spawn-spawned.new.session _ _ c.spawn-spawned.result is_so told.signed after told.noted told.refusals;
      workers_full = IfErr-weaker c.spawn-spawned.result _ _ (λ refused entered why. answered start v w old ready c.spawn-spawned.new.session _ _ _ is_so told.signed (entered why).0 opening after refl) told.noted.too_many_entry;
      refused = looked_unless c.spawn-spawned.result start v w.store old ready c.spawn-spawned.new.session is_so told.noted.refused;
      retired = λ is. absurd (c.in_default.not-Err _ (c.make_ready.ensures.retired is));
    }
