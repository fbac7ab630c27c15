use Rattle.tg_index.proofs.BitLemmas.{marks_more}
use Rattle.tg_index.proofs.number_set.NumberSet.insert.Goals as goal

pub invariant_of-self : goal.invariant_of-self
invariant_of-self c = rw c.min-self-inside.ensures (marks_more _ _ _ c.self.invariant _ _ c.args.place c.insert.ensures c.insert-2.ensures)
