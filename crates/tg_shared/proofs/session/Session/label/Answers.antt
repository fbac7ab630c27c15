use Rattle.std.proofs.Common.{◌≡◌, ◌∙◌, ap, refl, subst, sym}
use Rattle.tg_store.specs.Held.{IsHeldOver}
use Rattle.tg_store.specs.Store.{graph_of_store}
use Rattle.tg_shared.specs.Sessions.{HoldsWhenFree, LockedState, SessionState}
use Rattle.tg_shared.proofs.Calls.{found, found_with}
use Rattle.tg_shared.proofs.Knowing.{only_looked}
use Rattle.tg_shared.proofs.session.Session.label.Goals as goal

pub returns : goal.returns
returns g c =
    let v : LockedState = c.deref.result.now in
    let looks = c.look.ensures in
    let held : HoldsWhenFree g.L.Round.start v = found g.L.Round.start c.deref_mut.result.now v (sym (c.deref.ensures ∙ looks.looks.same)) looks.looks.held in
    let seen : c.look.new.session.seen ≡ v.signed = ap (λ (s : SessionState). s.seen) looks.session ∙ ap (λ (b : LockedState). b.signed) (sym (c.deref.ensures ∙ looks.looks.same)) in
    record {
      held = found_with g.L.Round.start c.look.new.session.seen _ v held seen
          (subst (λ w. IsHeldOver (graph_of_store v.store) w c.args.target c.label.result) (ap (λ (s : SessionState). s.worker) looks.session) (c.label.ensures.held (graph_of_store v.store) refl));
      looked = only_looked c.args.self.now c.look.new.session c.deref_mut.result.now.signed looks.session looks.looks.sees;
    }
