use Rattle.std.proofs.Common.{◌≡◌, ◌∙◌, ap, sym}
use Rattle.std.proofs.lemmas.Result.{IfOk-weaker}
use Rattle.tg_shared.specs.Sessions.{HoldsWhenFree, LeavesAtSeen, LockedState, SessionState}
use Rattle.tg_shared.proofs.Calls.{err_told, found, found_with}
use Rattle.tg_shared.proofs.Knowing.{only_looked}
use Rattle.tg_shares.proofs.client.Client.collect.Goals as goal

pub returns-clause-number : goal.returns-clause-number
returns-clause-number g c =
    let start = g.L.Round.start in
    let told = c.collect-left.ensures in
    let looks = c.look.ensures in
    let v : LockedState = c.deref_mut-2.result.now.locked in
    let w : LockedState = c.collect-left.new.self.locked in
    let held : HoldsWhenFree start v = found start c.deref_mut.result.now.locked v (sym ((λ i. (c.deref_mut-2.ensures.value i).locked) ∙ looks.looks.same)) looks.looks.held in
    let after : HoldsWhenFree start w = found start c.deref.result.now.locked w (λ i. (c.deref.ensures i).locked) c.store.ensures.held in
    let seen : c.look.new.client.session.seen ≡ v.signed = ap (λ (s : SessionState). s.seen) looks.session ∙ ap (λ (b : LockedState). b.signed) (sym ((λ i. (c.deref_mut-2.ensures.value i).locked) ∙ looks.looks.same)) in
    IfOk-weaker c.collect-left.result _ (LeavesAtSeen start c.look.new.client.session.seen c.args.kind)
    (λ n swept. found_with start c.look.new.client.session.seen _ v held seen (found_with start c.look.new.client.session.seen _ w after (seen ∙ sym told.collected.signed) swept)) told.collected.swept

pub returns-clause-full : goal.returns-clause-full
returns-clause-full g c =
    let start = g.L.Round.start in
    let looks = c.look.ensures in
    let v : LockedState = c.deref_mut-2.result.now.locked in
    let held : HoldsWhenFree start v = found start c.deref_mut.result.now.locked v (sym ((λ i. (c.deref_mut-2.ensures.value i).locked) ∙ looks.looks.same)) looks.looks.held in
    let seen : c.look.new.client.session.seen ≡ v.signed = ap (λ (s : SessionState). s.seen) looks.session ∙ ap (λ (b : LockedState). b.signed) (sym ((λ i. (c.deref_mut-2.ensures.value i).locked) ∙ looks.looks.same)) in
    err_told c.collect-left.result _ _ (λ is. found_with start c.look.new.client.session.seen _ v held seen (c.collect-left.ensures.full is))

pub returns-clause-looked : goal.returns-clause-looked
returns-clause-looked g c = only_looked c.args.self.now.session c.look.new.client.session c.deref_mut.result.now.locked.signed c.look.ensures.session c.look.ensures.looks.sees
