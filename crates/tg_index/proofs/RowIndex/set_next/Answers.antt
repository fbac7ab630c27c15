use Rattle.std.proofs.Common.{refl, arith}
use Rattle.tg_index.proofs.BitLemmas.{numbers_more, numbers_once}
use Rattle.tg_index.proofs.SlotLemmas.{named_next, skipped_next, within_more, within_named, within_next}
use Rattle.tg_index.proofs.RowIndex.set_next.Goals as goal

pub invariant_of-self : goal.invariant_of-self
invariant_of-self c =
    let asked = rw (← c.self.view_is) at c.requires in
    let updates = rw c.unwrap.ensures at c.insert.ensures.updates in
    within_named _ _ _ _ (within_next _ _ _ _ c.self.invariant asked.room.places asked.inside) _ c.in-Some.name c.self.inside.next (omega arith) updates.0

pub returns-in-Some : goal.returns-in-Some
returns-in-Some c =
    let asked = rw (← c.self.view_is) at c.requires in
    let updates = rw c.unwrap.ensures at c.insert.ensures.updates in
    rw (← c.self.view_is, c.in-Some.is) (record {
      rows = λ row later is absent puts.
          named_next _ _ row later is c.self.inside.next c.in-Some.name refl refl refl asked.inside (λ m. (λ has. has, λ has. has)) (numbers_once c.self.inside.holes) absent puts updates.0;
      next = refl;
      len = refl;
    })

pub invariant_of-self-in-None : goal.invariant_of-self-in-None
invariant_of-self-in-None c =
    let asked = rw (← c.self.view_is) at c.requires in
    within_more _ _ _ _ (within_next _ _ _ _ c.self.invariant asked.room.places asked.inside) _ c.self.inside.next (omega arith) c.insert-in-None.ensures

pub returns-in-None : goal.returns-in-None
returns-in-None c =
    let asked = rw (← c.self.view_is) at c.requires in
    let after = c.insert-in-None.new.self in
    rw (← c.self.view_is, c.in-None.is) (record {
      rows = λ row later is absent puts.
          skipped_next _ _ row later is c.self.inside.next refl refl refl asked.inside (numbers_more c.self.inside.holes after c.self.inside.next c.insert-in-None.ensures) (numbers_once after) puts (λ q. refl);
      next = refl;
      len = refl;
    })
