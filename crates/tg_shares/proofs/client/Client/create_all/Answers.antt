-- The vertices were made in the lock, and the session has seen their entries.
use Rattle.std.proofs.Common.{◌∙◌, ◌<◌, length, refl, rules}
use Rattle.std.proofs.lemmas.Result.{IfErr-weaker, on_ok_weaker}
use Rattle.tg_shared.specs.Sessions.{HoldsWhenFree, LockedState, SessionState}
use Rattle.tg_shared.proofs.Calls.{found}
use Rattle.tg_shares.proofs.SeenCreates.{creates_early, makes_all}
use Rattle.tg_shared.proofs.Replies.{IsReady, is_ready}
use Rattle.tg_shares.proofs.Creations.{early_not_full, stops_paid_creates}
use Rattle.tg_shares.proofs.client.Client.create_all.Goals as goal

pub returns-in-Err-clause-stopped : goal.returns-in-Err-clause-stopped
returns-in-Err-clause-stopped g c =
    let some : 0 < length c.args.drafts.now.items = search rules in
    creates_early g.L.Round.start c.args.self.now.session c.make_ready_to_create.new.self c.args.label c.args.drafts.now.items c.args.drafts.now.items c.in-Err.why some refl c.make_ready_to_create.ensures.receipts c.make_ready_to_create.ensures.own c.in-Err.ensures.why

pub returns-in-Err-clause-never_full : goal.returns-in-Err-clause-never_full
returns-in-Err-clause-never_full g c = λ done. early_not_full c.in-Err.why 0 done c.in-Err.ensures.why

pub returns-clause-made : goal.returns-clause-made
returns-clause-made g c =
    let start = g.L.Round.start in
    let v : LockedState = c.deref_mut-2.result.now.locked in
    let w : LockedState = c.create_all-made.new.self.locked in
    let old : SessionState = c.args.self.now.session in
    let ready : SessionState = c.look.new.client.session in
    let is_so : IsReady start v old ready = is_ready start c.deref_mut.result.now.locked v old c.make_ready_to_create.new.self ready ((λ i. (c.deref_mut-2.ensures.value i).locked) ∙ c.look.ensures.looks.same) c.look.ensures.looks c.make_ready_to_create.ensures.receipts c.look.ensures.session in
    on_ok_weaker c.create_all-made.result (λ made _. makes_all start c.args.label c.args.drafts.now.items v w old ready c.create_all-made.new.client.session is_so made) c.create_all-made.ensures.made

pub returns-clause-stopped : goal.returns-clause-stopped
returns-clause-stopped g c =
    let start = g.L.Round.start in
    let v : LockedState = c.deref_mut-2.result.now.locked in
    let w : LockedState = c.create_all-made.new.self.locked in
    let old : SessionState = c.args.self.now.session in
    let ready : SessionState = c.look.new.client.session in
    let is_so : IsReady start v old ready = is_ready start c.deref_mut.result.now.locked v old c.make_ready_to_create.new.self ready ((λ i. (c.deref_mut-2.ensures.value i).locked) ∙ c.look.ensures.looks.same) c.look.ensures.looks c.make_ready_to_create.ensures.receipts c.look.ensures.session in
    let held : HoldsWhenFree start w = found start c.deref.result.now.locked w (λ i. (c.deref.ensures i).locked) c.store.ensures.held in
    IfErr-weaker c.create_all-made.result _ _ (stops_paid_creates start c.args.label c.args.drafts.now.items c.create_all-made.new.drafts.items v w old ready c.create_all-made.new.client.session c.create_all-made.new.client.purse is_so held) c.create_all-made.ensures.stopped
