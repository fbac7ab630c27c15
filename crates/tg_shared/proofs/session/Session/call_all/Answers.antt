-- The commands were taken in the lock, and the session has seen their entries.
use Rattle.std.proofs.Common.{◌≡◌, ◌∙◌, ◌<◌, ◌≤◌, length, arith, rules, refl, subst, sym}
use Rattle.std.proofs.lemmas.Result.{IfErr-weaker, on_ok_weaker}
use Rattle.tg_shared.specs.Sessions.{HoldsWhenFree, LockedState, SessionState}
use Rattle.tg_shared.proofs.Batching.{answers_all, not_too_long, stops_calls, stops_early}
use Rattle.tg_shared.proofs.Replies.{IsReady, is_ready}
use Rattle.tg_shared.proofs.session.Session.call_all.Goals as goal

pub returns-in-Err-clause-stopped : goal.returns-in-Err-clause-stopped
returns-in-Err-clause-stopped g c =
    let some : 0 < length c.args.commands.now = search rules in
    stops_early g.L.Round.start c.args.self.now c.make_ready_for.new.self c.args.commands.now c.in-Err.why some c.make_ready_for.ensures.receipts c.make_ready_for.ensures.own c.in-Err.ensures.why

pub apply_all-answered-requires : goal.apply_all-answered-requires
apply_all-answered-requires g c = record { room = subst (λ (s : SessionState). length c.args.commands.now ≤ s.spare) (sym c.look.ensures.session) c.in_default.ensures.room }

pub returns-clause-receipts : goal.returns-clause-receipts
returns-clause-receipts g c =
    let start = g.L.Round.start in
    let v : LockedState = c.deref_mut-2.result.now in
    let w : LockedState = c.apply_all-answered.new.self in
    let old : SessionState = c.args.self.now in
    let ready : SessionState = c.look.new.session in
    let is_so : IsReady start v old ready = is_ready start c.deref_mut.result.now v old c.make_ready_for.new.self ready (c.deref_mut-2.ensures.value ∙ c.look.ensures.looks.same) c.look.ensures.looks c.make_ready_for.ensures.receipts c.look.ensures.session in
    on_ok_weaker c.apply_all-answered.result (λ served _. answers_all start v w old ready c.apply_all-answered.new.session c.args.commands.now is_so served) c.apply_all-answered.ensures.served

pub returns-clause-stopped : goal.returns-clause-stopped
returns-clause-stopped g c =
    let start = g.L.Round.start in
    let v : LockedState = c.deref_mut-2.result.now in
    let w : LockedState = c.apply_all-answered.new.self in
    let old : SessionState = c.args.self.now in
    let ready : SessionState = c.look.new.session in
    let is_so : IsReady start v old ready = is_ready start c.deref_mut.result.now v old c.make_ready_for.new.self ready (c.deref_mut-2.ensures.value ∙ c.look.ensures.looks.same) c.look.ensures.looks c.make_ready_for.ensures.receipts c.look.ensures.session in
    let held : HoldsWhenFree start w = subst (HoldsWhenFree start) c.deref.ensures c.store.ensures.held in
    IfErr-weaker c.apply_all-answered.result _ _ (stops_calls start v w old ready c.apply_all-answered.new.session c.args.commands.now is_so held) c.apply_all-answered.ensures.stopped

pub returns-clause-too_long : goal.returns-clause-too_long
returns-clause-too_long g c = (
  (λ is. absurd (not_too_long c.args.commands.now c.deref_mut-2.result.now c.apply_all-answered.new.self c.look.new.session c.apply_all-answered.new.session c.apply_all-answered.result c.apply_all-answered.ensures.stopped is)),
  (λ more. absurd (omega (arith, more))),
)

pub returns-clause-retired : goal.returns-clause-retired
returns-clause-retired g c = λ is _ _. absurd (c.in_default.not-Err _ (c.make_ready_for.ensures.retired is))
