use Rattle.std.proofs.Common.{◌≡◌, ◌∙◌, ap, refl, sym}
use Rattle.std.proofs.lemmas.Result.{IfOk-weaker}
use Rattle.tg_store.specs.Store.{graph_of_store}
use Rattle.tg_shared.specs.Sessions.{HoldsWhenFree, KeeperState, LockedState}
use Rattle.tg_shared.proofs.Calls.{found, found_with}
use Rattle.tg_shared.proofs.Knowing.{keeper_looked}
use Rattle.tg_shared.proofs.keeper.Keeper.picture.Goals as goal

pub returns : goal.returns
returns g c =
    let start = g.L.Round.start in
    let v : LockedState = c.deref.result.now in
    let looks = c.tell.ensures in
    let held : HoldsWhenFree start v = found start c.deref_mut.result.now v (sym (c.deref.ensures ∙ looks.looks.same)) looks.looks.held in
    let seen : c.tell.new.keeper.seen ≡ c.deref_mut.result.now.signed = ap (λ (k : KeeperState). k.seen) looks.keeper in
    record {
      shown = IfOk-weaker c.picture.result _ _ (λ picture shown. found_with start c.tell.new.keeper.seen _ v held (seen ∙ ap (λ (b : LockedState). b.signed) (sym (c.deref.ensures ∙ looks.looks.same))) shown) (c.picture.ensures (graph_of_store v.store) refl);
      looked = (keeper_looked c.args.self.now c.tell.new.keeper c.deref_mut.result.now.signed (ap (λ (k : KeeperState). k.made) looks.keeper) seen looks.looks.sees, ap (λ (k : KeeperState). k.next) looks.keeper);
    }
