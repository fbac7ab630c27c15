-- The store that is left holds its entries from the place on that the keeper then knows.
use Rattle.std.proofs.Common.{◌≡◌, ◌∙◌, ◌+◌, ℕ, List, ap, length, max, min, sym}
use Rattle.tg_passes.specs.declared.signed.Signed.{Signed}
use Rattle.tg_shared.specs.Sessions.{HoldsWhenFree, KeeperState, LockedState, held_after}
use Rattle.tg_shared.proofs.Calls.{found, found_with}
use Rattle.tg_shared.proofs.Knowing.{keeper_looked, places_are}
use Rattle.tg_shared.proofs.keeper.Keeper.forget.Goals as goal

pub returns : goal.returns
returns g c =
    let start = g.L.Round.start in
    let v : LockedState = c.deref_mut-2.result.now in
    let w : LockedState = c.forget.new.self in
    let new : KeeperState = c.forget.new.keeper in
    let told : v ≡ c.deref_mut.result.now = c.deref_mut-2.ensures.value ∙ c.tell.ensures.looks.same in
    let held : HoldsWhenFree start v = found start c.deref_mut.result.now v (sym told) c.tell.ensures.looks.held in
    let left : HoldsWhenFree start w = found start c.deref.result.now w c.deref.ensures c.store.ensures.held in
    let ready : c.tell.new.keeper ≡ record c.args.self.now { seen = c.deref_mut.result.now.signed } = c.tell.ensures.keeper in
    let is : new ≡ record c.tell.new.keeper { next = held_after c.args.upto v.store } = c.forget.ensures.keeper in
    let seen : new.seen ≡ v.signed = ap (λ (k : KeeperState). k.seen) (is ∙ (λ i. record (ready i) { next = held_after c.args.upto v.store })) ∙ ap (λ (b : LockedState). b.signed) (sym told) in
    let handed : v.store.handed ≡ c.args.self.now.next = sym c.forget.ensures.joined ∙ ap (λ (k : KeeperState). k.next) ready in
    let long : length v.store.entries ≡ _ = places_are start v.store v.signed held.grown_by ∙ ap (λ (l : List Signed). length start.entries + length l) (sym seen) in
    record {
      next = ap (λ (k : KeeperState). k.next) is ∙ (λ i. max (handed i) (min c.args.upto (long i)));
      looked = keeper_looked c.args.self.now new c.deref_mut.result.now.signed (ap (λ (k : KeeperState). k.made) is ∙ ap (λ (k : KeeperState). k.made) ready) (seen ∙ ap (λ (b : LockedState). b.signed) told) c.tell.ensures.looks.sees;
      held = found_with start new.seen _ w left (seen ∙ ap (λ (b : LockedState). b.signed) (sym c.forget.ensures.forgotten))
          (ap (λ (b : LockedState). b.store.handed) c.forget.ensures.forgotten ∙ sym (ap (λ (k : KeeperState). k.next) is));
    }
