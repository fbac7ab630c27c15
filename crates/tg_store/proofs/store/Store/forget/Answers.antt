-- What is held no more is in all the entries still; so the graph is as it was.
use Rattle.std.proofs.Common.{◌≤◌, length, refl, subst, sym}
use Rattle.tg_store.specs.Store.{HoldsFrom, StoreState}
use Rattle.tg_store.proofs.StandLaws.{IsStore-handed}
use Rattle.tg_store.proofs.store.Store.forget.Goals as goal

pub forget-requires : goal.forget-requires
forget-requires g c =
    subst (λ (s : StoreState). (s.handed ≤ c.args.upto) × (c.args.upto ≤ length s.entries)) (sym c.self.view_is) c.requires

pub invariant_of-self : goal.invariant_of-self
invariant_of-self g c =
    IsStore-handed c.args.upto _ _ c.self.inside.made c.self.invariant (record { entries = c.forget.ensures.entries; handed = c.forget.ensures.start; opening = refl; heap = refl; collections = refl })

pub returns : goal.returns
returns g c =
    let new : StoreState = record { opening = c.self.inside.opening; entries = c.forget.new.self.entries; handed = c.forget.new.self.start; heap = c.self.inside.heap; collections = c.self.inside.collections } in
    subst (λ (s : StoreState). HoldsFrom c.args.upto s new) c.self.view_is (record { entries = c.forget.ensures.entries; handed = c.forget.ensures.start; opening = refl; heap = refl; collections = refl })
