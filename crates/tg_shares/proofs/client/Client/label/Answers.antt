use Rattle.std.proofs.Common.{◌≡◌, ◌∙◌, ap, refl, subst, sym}
use Rattle.tg_store.specs.Held.{IsHeldOver}
use Rattle.tg_store.specs.Store.{graph_of_store}
use Rattle.tg_shared.specs.Sessions.{HoldsWhenFree, LockedState, SessionState}
use Rattle.tg_shared.proofs.Calls.{found, found_with}
use Rattle.tg_shared.proofs.Knowing.{only_looked}
use Rattle.tg_shares.proofs.client.Client.label.Goals as goal

pub returns-clause-held : goal.returns-clause-held
returns-clause-held g c =
    let start = g.L.Round.start in
    let v : LockedState = c.deref.result.now.locked in
    let looks = c.look.ensures in
    let held : HoldsWhenFree start v = found start c.deref_mut.result.now.locked v (sym ((λ i. (c.deref.ensures i).locked) ∙ looks.looks.same)) looks.looks.held in
    let seen : c.look.new.client.session.seen ≡ v.signed = ap (λ (s : SessionState). s.seen) looks.session ∙ ap (λ (b : LockedState). b.signed) (sym ((λ i. (c.deref.ensures i).locked) ∙ looks.looks.same)) in
    found_with start c.look.new.client.session.seen _ v held seen
    (subst (λ w. IsHeldOver (graph_of_store v.store) w c.args.target c.label.result) (ap (λ (s : SessionState). s.worker) looks.session) (c.label.ensures.held (graph_of_store v.store) refl))

pub returns-clause-looked : goal.returns-clause-looked
returns-clause-looked g c = only_looked c.args.self.now.session c.look.new.client.session c.deref_mut.result.now.locked.signed c.look.ensures.session c.look.ensures.looks.sees
