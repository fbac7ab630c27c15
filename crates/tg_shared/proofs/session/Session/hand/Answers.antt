-- The hand was done in the lock, and the session has seen its entries.
use Rattle.std.proofs.Common.{◌≡◌, ◌∙◌, ◌≤◌, Result, Err, ap, subst, sym}
use Rattle.std.specs.Prelude.{IfErr, IfOk}
use Rattle.std.proofs.lemmas.Result.{err_from_is_err_and}
use Rattle.tg_store.specs.declared.fault.ApplyFault.{ApplyFault}
use Rattle.tg_store.specs.declared.fault.ApplyFault.TheVariants.{NoSuchWorker}
use Rattle.tg_store.specs.declared.handing.Handed.{Handed}
use Rattle.tg_shared.specs.Handing.{RefusesHand}
use Rattle.tg_shared.specs.Sessions.{HoldsWhenFree, LockedState, SessionState}
use Rattle.tg_shared.proofs.Calls.{ok_not_err}
use Rattle.tg_shared.proofs.HandLaws.{handed_at_seen, refuses_early, refuses_hand}
use Rattle.tg_shared.proofs.Replies.{IsReady, is_ready}
use Rattle.tg_shared.proofs.session.Session.hand.Goals as goal

pub returns-in_err-make_ready_for-clause-refused : goal.returns-in_err-make_ready_for-clause-refused
returns-in_err-make_ready_for-clause-refused g c =
    let given = err_from_is_err_and c.from_residual.result c.from_residual.ensures.1 in
    subst (λ (r : Result Handed ApplyFault). IfErr r (RefusesHand g.L.Round.start c.args.hand c.args.self.now c.make_ready_for.new.self)) (sym (given.1 ∙ ap Err given.2))
    (refuses_early g.L.Round.start c.args.self.now c.make_ready_for.new.self c.args.hand c.in_err-make_ready_for.field-0.0 c.make_ready_for.ensures.receipts c.make_ready_for.ensures.own c.in_err-make_ready_for.ensures.why)

pub hand-handed-requires : goal.hand-handed-requires
hand-handed-requires g c = record { room = subst (λ (s : SessionState). 3 ≤ s.spare) (sym c.look.ensures.session) c.in_ok-make_ready_for.ensures.room }

pub returns-clause-handed : goal.returns-clause-handed
returns-clause-handed g c =
    let start = g.L.Round.start in
    let v : LockedState = c.deref_mut-2.result.now in
    let w : LockedState = c.hand-handed.new.self in
    let old : SessionState = c.args.self.now in
    let ready : SessionState = c.look.new.session in
    let is_so : IsReady start v old ready = is_ready start c.deref_mut.result.now v old c.make_ready_for.new.self ready (c.deref_mut-2.ensures.value ∙ c.look.ensures.looks.same) c.look.ensures.looks c.make_ready_for.ensures.receipts c.look.ensures.session in
    let held : HoldsWhenFree start w = subst (HoldsWhenFree start) c.deref.ensures c.store.ensures.held in
    handed_at_seen start v w old ready c.hand-handed.new.session c.args.hand c.hand-handed.result is_so held c.hand-handed.ensures.signed c.hand-handed.ensures.served

pub returns-clause-refused : goal.returns-clause-refused
returns-clause-refused g c =
    let start = g.L.Round.start in
    let v : LockedState = c.deref_mut-2.result.now in
    let old : SessionState = c.args.self.now in
    let ready : SessionState = c.look.new.session in
    let is_so : IsReady start v old ready = is_ready start c.deref_mut.result.now v old c.make_ready_for.new.self ready (c.deref_mut-2.ensures.value ∙ c.look.ensures.looks.same) c.look.ensures.looks c.make_ready_for.ensures.receipts c.look.ensures.session in
    refuses_hand start v c.hand-handed.new.self.store old ready c.hand-handed.new.session c.args.hand c.hand-handed.result is_so c.hand-handed.ensures.served

pub returns-clause-retired : goal.returns-clause-retired
returns-clause-retired g c = λ is. absurd (ok_not_err c.in_ok-make_ready_for.field-0 NoSuchWorker (c.in_ok-make_ready_for.ensures.retired is))
