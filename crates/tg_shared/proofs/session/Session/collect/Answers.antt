use Rattle.std.proofs.Common.{◌≡◌, ◌∙◌, ap, sym}
use Rattle.std.proofs.lemmas.Result.{IfOk-weaker}
use Rattle.tg_shared.specs.Sessions.{HoldsWhenFree, LeavesAtSeen, LockedState, SessionState}
use Rattle.tg_shared.proofs.Calls.{err_told, found, found_with}
use Rattle.tg_shared.proofs.Knowing.{only_looked}
use Rattle.tg_shared.proofs.session.Session.collect.Goals as goal

pub returns : goal.returns
returns g c =
    let start = g.L.Round.start in
    let told = c.collect-left.ensures in
    let looks = c.look.ensures in
    let v : LockedState = c.deref_mut-2.result.now in
    let held : HoldsWhenFree start v = found start c.deref_mut.result.now v (sym (c.deref_mut-2.ensures.value ∙ looks.looks.same)) looks.looks.held in
    let after : HoldsWhenFree start c.collect-left.new.self = found start c.deref.result.now c.collect-left.new.self c.deref.ensures c.store.ensures.held in
    let seen : c.look.new.session.seen ≡ v.signed = ap (λ (s : SessionState). s.seen) looks.session ∙ ap (λ (b : LockedState). b.signed) (sym (c.deref_mut-2.ensures.value ∙ looks.looks.same)) in
    record {
      number = IfOk-weaker c.collect-left.result _ (LeavesAtSeen start c.look.new.session.seen c.args.kind)
          (λ n swept. found_with start c.look.new.session.seen _ v held seen (found_with start c.look.new.session.seen _ c.collect-left.new.self after (seen ∙ sym told.collected.signed) swept)) told.collected.swept;
      full = err_told c.collect-left.result _ _ (λ is. found_with start c.look.new.session.seen _ v held seen (told.full is));
      looked = only_looked c.args.self.now c.look.new.session c.deref_mut.result.now.signed looks.session looks.looks.sees;
    }
