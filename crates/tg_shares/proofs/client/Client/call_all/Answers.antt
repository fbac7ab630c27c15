-- The commands were taken in the lock, and the session has seen their entries.
use Rattle.std.proofs.Common.{◌∙◌, ◌<◌, length, rules}
use Rattle.std.proofs.lemmas.Result.{IfErr-weaker, on_ok_weaker}
use Rattle.tg_shared.specs.Sessions.{HoldsWhenFree, LockedState, SessionState}
use Rattle.tg_shares.proofs.SeenCalls.{answers_all, stops_early}
use Rattle.tg_shared.proofs.Calls.{found}
use Rattle.tg_shared.proofs.Replies.{IsReady, is_ready}
use Rattle.tg_shares.proofs.Batching.{stops_paid_calls}
use Rattle.tg_shares.proofs.client.Client.call_all.Goals as goal

pub returns-in-Err-clause-stopped : goal.returns-in-Err-clause-stopped
returns-in-Err-clause-stopped g c =
    let some : 0 < length c.args.commands.now = search rules in
    stops_early g.L.Round.start c.args.self.now.session c.make_ready_for.new.self c.args.commands.now c.in-Err.why some c.make_ready_for.ensures.receipts c.make_ready_for.ensures.own c.in-Err.ensures.why

pub returns-clause-receipts : goal.returns-clause-receipts
returns-clause-receipts g c =
    let start = g.L.Round.start in
    let v : LockedState = c.deref_mut-2.result.now.locked in
    let w : LockedState = c.apply_all-answered.new.self.locked in
    let old : SessionState = c.args.self.now.session in
    let ready : SessionState = c.look.new.client.session in
    let is_so : IsReady start v old ready = is_ready start c.deref_mut.result.now.locked v old c.make_ready_for.new.self ready ((λ i. (c.deref_mut-2.ensures.value i).locked) ∙ c.look.ensures.looks.same) c.look.ensures.looks c.make_ready_for.ensures.receipts c.look.ensures.session in
    on_ok_weaker c.apply_all-answered.result (λ served _. answers_all start v w old ready c.apply_all-answered.new.client.session c.args.commands.now is_so served) c.apply_all-answered.ensures.served

pub returns-clause-stopped : goal.returns-clause-stopped
returns-clause-stopped g c =
    let start = g.L.Round.start in
    let v : LockedState = c.deref_mut-2.result.now.locked in
    let w : LockedState = c.apply_all-answered.new.self.locked in
    let old : SessionState = c.args.self.now.session in
    let ready : SessionState = c.look.new.client.session in
    let is_so : IsReady start v old ready = is_ready start c.deref_mut.result.now.locked v old c.make_ready_for.new.self ready ((λ i. (c.deref_mut-2.ensures.value i).locked) ∙ c.look.ensures.looks.same) c.look.ensures.looks c.make_ready_for.ensures.receipts c.look.ensures.session in
    let held : HoldsWhenFree start w = found start c.deref.result.now.locked w (λ i. (c.deref.ensures i).locked) c.store.ensures.held in
    IfErr-weaker c.apply_all-answered.result _ _ (stops_paid_calls start v w old ready c.apply_all-answered.new.client.session c.args.commands.now c.apply_all-answered.new.client.purse is_so held) c.apply_all-answered.ensures.stopped
