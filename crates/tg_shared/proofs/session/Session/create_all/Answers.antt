-- The vertices were made in the lock, and the session has seen their entries.
use Rattle.std.proofs.Common.{◌≡◌, ◌∙◌, ◌<◌, length, arith, refl, rules, subst}
use Rattle.std.proofs.lemmas.Result.{IfErr-weaker, on_ok_weaker}
use Rattle.tg_shared.specs.Sessions.{HoldsWhenFree, LockedState, SessionState}
use Rattle.tg_shared.proofs.Creations.{creates_early, creates_not_too_long, makes_all, stops_creates}
use Rattle.tg_shared.proofs.Replies.{IsReady, is_ready}
use Rattle.tg_shared.proofs.session.Session.create_all.Goals as goal

pub returns-in-Err-clause-stopped : goal.returns-in-Err-clause-stopped
returns-in-Err-clause-stopped g c =
    let some : 0 < length c.args.drafts.now.items = search rules in
    creates_early g.L.Round.start c.args.self.now c.make_ready_to_create.new.self c.args.label c.args.drafts.now.items c.args.drafts.now.items c.in-Err.why some refl c.make_ready_to_create.ensures.receipts c.make_ready_to_create.ensures.own c.in-Err.ensures.why

pub returns-clause-made : goal.returns-clause-made
returns-clause-made g c =
    let start = g.L.Round.start in
    let v : LockedState = c.deref_mut-2.result.now in
    let w : LockedState = c.create_all-made.new.self in
    let old : SessionState = c.args.self.now in
    let ready : SessionState = c.look.new.session in
    let is_so : IsReady start v old ready = is_ready start c.deref_mut.result.now v old c.make_ready_to_create.new.self ready (c.deref_mut-2.ensures.value ∙ c.look.ensures.looks.same) c.look.ensures.looks c.make_ready_to_create.ensures.receipts c.look.ensures.session in
    on_ok_weaker c.create_all-made.result (λ made _. makes_all start c.args.label c.args.drafts.now.items v w old ready c.create_all-made.new.session is_so made) c.create_all-made.ensures.made

pub returns-clause-stopped : goal.returns-clause-stopped
returns-clause-stopped g c =
    let start = g.L.Round.start in
    let v : LockedState = c.deref_mut-2.result.now in
    let w : LockedState = c.create_all-made.new.self in
    let old : SessionState = c.args.self.now in
    let ready : SessionState = c.look.new.session in
    let is_so : IsReady start v old ready = is_ready start c.deref_mut.result.now v old c.make_ready_to_create.new.self ready (c.deref_mut-2.ensures.value ∙ c.look.ensures.looks.same) c.look.ensures.looks c.make_ready_to_create.ensures.receipts c.look.ensures.session in
    let held : HoldsWhenFree start w = subst (HoldsWhenFree start) c.deref.ensures c.store.ensures.held in
    IfErr-weaker c.create_all-made.result _ _ (stops_creates start c.args.label c.args.drafts.now.items c.create_all-made.new.drafts.items v w old ready c.create_all-made.new.session is_so held) c.create_all-made.ensures.stopped

pub returns-clause-too_long : goal.returns-clause-too_long
returns-clause-too_long g c = (
  (λ is.
      absurd
      (creates_not_too_long c.args.label c.args.drafts.now.items c.create_all-made.new.drafts.items c.deref_mut-2.result.now c.create_all-made.new.self c.look.new.session c.create_all-made.new.session c.create_all-made.result c.create_all-made.ensures.stopped is)),
  (λ more. absurd (omega (arith, more))),
)

pub returns-clause-retired : goal.returns-clause-retired
returns-clause-retired g c = λ is _ _. absurd (c.in_default.not-Err _ (c.make_ready_to_create.ensures.retired is))
