use Rattle.tg_index.proofs.NextLemmas.{none_are_marks}
use Rattle.tg_index.proofs.number_set.NumberSet.clear.Goals as goal

pub invariant_of-self : goal.invariant_of-self
invariant_of-self c = rw (c.clear.ensures.items, c.clear-2.ensures.items) none_are_marks
