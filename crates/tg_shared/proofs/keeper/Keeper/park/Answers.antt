-- The call under the lock did it to a store that may have been in the lock, and what is left may have been there too.
use Rattle.std.proofs.Common.{◌∙◌, refl, sym}
use Rattle.std.proofs.lemmas.Result.{IfOk-weaker}
use Rattle.tg_store.specs.Parking.{IsInUse}
use Rattle.tg_store.specs.Parking.{ComesOfParking}
use Rattle.tg_store.specs.Store.{graph_of_store}
use Rattle.tg_store.specs.declared.parking.ParkFault.TheVariants.{InUse, NoSuchWorker}
use Rattle.tg_shared.specs.Parking.{AreBothSubjects, entries_of_park}
use Rattle.tg_shared.specs.Sessions.{HoldsWhenFree, LockedState}
use Rattle.tg_shared.proofs.Calls.{found}
use Rattle.tg_shared.proofs.ParkLaws.{park_count, park_got, has_made, made_number, none_made, refused_at}
use Rattle.tg_shared.proofs.keeper.Keeper.park.Goals as goal

pub returns : goal.returns
returns g c =
    let start = g.L.Round.start in
    let p = c.args.parking in
    let told = c.park-parked.ensures in
    let v : LockedState = c.deref_mut.result.now in
    let w : LockedState = c.park-parked.new.self in
    let old = c.args.self.now in
    let new = c.park-parked.new.keeper in
    let r = c.park-parked.result in
    let held : HoldsWhenFree start v = found start c.deref.result.now v (c.deref.ensures ∙ sym c.deref_mut.ensures.value) c.store.ensures.held in
    let after : HoldsWhenFree start w = found start c.deref-2.result.now w c.deref-2.ensures c.store-2.ensures.held in
    record {
      parked = IfOk-weaker r _ _ (λ answer came. has_made start v w old new (λ s next. ComesOfParking p s next answer) (λ g. entries_of_park g p answer) held after told.sees told.signed came (park_got p v.store w.store answer came)) told.answered.comes_of;
      entered = IfOk-weaker r _ _ (λ answer came. made_number v w old new _ _ told.signed (park_got p v.store w.store answer came) (park_count p v.store w.store answer came)) told.answered.comes_of;
      refused = none_made r v w old new told.sees told.signed told.answered.refused;
      no_such_worker = refused_at r NoSuchWorker (λ s. ¬ AreBothSubjects p (graph_of_store s)) start v w old new held told.signed told.answered.refused (told.answered.no_such_worker (graph_of_store v.store) refl).0;
      in_use = refused_at r InUse (λ s. IsInUse (graph_of_store s).label p.user p.account) start v w old new held told.signed told.answered.refused (told.answered.in_use (graph_of_store v.store) refl);
    }
