use Rattle.std.proofs.Common.{◌≡◌, ◌∙◌, refl, rules, sym, subst}
use Rattle.std.proofs.lemmas.Result.{IfOk-weaker}
use Rattle.tg_store.specs.Store.{IsFaithful}
use Rattle.tg_shared.specs.Sessions.{LockedState, MayNote, SessionState}
use Rattle.tg_shared.proofs.Knowing.{looked_none}
use Rattle.tg_shared.proofs.Replies.{IsReady, answered, is_ready, looked_unless, refusals_at_seen, refusals_unasked, without_workers}
use Rattle.tg_shared.proofs.session.Session.create.Goals as goal

pub returns-in-Err-clause-refusals : goal.returns-in-Err-clause-refusals
returns-in-Err-clause-refusals g c = refusals_unasked g.L.Round.start _ c.args.draft c.args.self.now _ _ refl c.make_ready.ensures.receipts c.in-Err.ensures.why

pub returns-in-Err-clause-refused : goal.returns-in-Err-clause-refused
returns-in-Err-clause-refused g c = λ _. looked_none c.args.self.now c.make_ready.new.self c.make_ready.ensures.receipts c.make_ready.ensures.own

pub create-created-requires : goal.create-created-requires
create-created-requires g c =
    let state : c.as_slice.result.now ≡ c.args.draft.state = search rules in
    record {
      notable = subst (λ (s : SessionState). MayNote s c.args.draft.state) (sym c.look.ensures.session) (record { room = c.in_default.ensures.notable.room; copy = c.in_default.ensures.notable.copy ∙ state });
    }

pub returns : goal.returns
returns g c =
    let start = g.L.Round.start in
    let v : LockedState = c.deref_mut-2.result.now in
    let w : LockedState = c.create-created.new.self in
    let old : SessionState = c.args.self.now in
    let ready : SessionState = c.look.new.session in
    let told = c.create-created.ensures in
    let opening = told.refusals.opening in
    let is_so : IsReady start v old ready = is_ready start c.deref_mut.result.now v old c.make_ready.new.self ready (c.deref_mut-2.ensures.value ∙ c.look.ensures.looks.same) c.look.ensures.looks c.make_ready.ensures.receipts c.look.ensures.session in
    let after : IsFaithful w.store = subst (λ (b : LockedState). IsFaithful b.store) c.deref.ensures c.store.ensures.held.faithful in
    record {
      receipt = IfOk-weaker c.create-created.result _ _ (λ name made. answered start v w old ready c.create-created.new.session _ _ _ is_so told.signed made.entry opening after refl) told.served;
      refusals = refusals_at_seen start v w old ready c.create-created.new.session _ _ c.create-created.result is_so told.signed after told.noted told.refusals;
      refused = without_workers c.create-created.result _ (looked_unless c.create-created.result start v w.store old ready c.create-created.new.session is_so told.noted.refused) told.no_workers_full;
      no_workers_full = told.no_workers_full;
      retired = λ is. absurd (c.in_default.not-Err _ (c.make_ready.ensures.retired is));
    }
