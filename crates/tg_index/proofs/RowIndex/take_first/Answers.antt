use Rattle.tg_index.specs.Bits.{numbers_set}
use Rattle.tg_index.proofs.BitLemmas.{none_number}
use Rattle.tg_index.proofs.SlotLemmas.{taken_hole, taken_next, vacant_next, within_less, within_next}
use Rattle.tg_index.proofs.RowIndex.take_first.Goals as goal

pub returns-in-Some-clause-taken : goal.returns-in-Some-clause-taken
returns-in-Some-clause-taken c =
    rw (← c.self.view_is) (taken_hole c.self.inside.holes c.remove.new.self c.self.inside.next c.in-Some.hole c.in-Some.ensures.some c.remove.ensures)

pub invariant_of-self : goal.invariant_of-self
invariant_of-self c = within_less _ _ _ _ c.self.invariant _ c.in-Some.hole c.remove.ensures

pub invariant_of-self-2 : goal.invariant_of-self-2
invariant_of-self-2 c =
    let asked = rw (← c.self.view_is) at c.requires in
    within_next _ _ _ _ c.self.invariant asked.room.places
    (vacant_next (numbers_set c.self.inside.holes) c.self.inside.next c.self.inside.places asked.vacant (none_number c.self.inside.holes (c.first.ensures.none c.in_default.is)))

pub returns-clause-taken : goal.returns-clause-taken
returns-clause-taken c = rw (← c.self.view_is) (taken_next c.self.inside.holes c.self.inside.next (c.first.ensures.none c.in_default.is))
