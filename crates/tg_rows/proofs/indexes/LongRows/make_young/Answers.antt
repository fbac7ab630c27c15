use Rattle.std.proofs.Common.{subst, sym}
use Rattle.tg_rows.specs.Index.{HasIndexAt, Indexes}
use Rattle.tg_rows.proofs.Ages.{one_less, still_there}
use Rattle.tg_rows.proofs.indexes.LongRows.make_young.Goals as goal

pub invariant_of-self : goal.invariant_of-self
invariant_of-self c = one_less c.self.inside.indexes.entries c.swap_indices.new.self.entries c.self.inside.old_rows c.args.at c.self.invariant c.if-self-at.false c.swap_indices.ensures.entries

pub returns-clause-there : goal.returns-clause-there
returns-clause-there c =
    λ name was.
    still_there c.self.inside.indexes.entries c.swap_indices.new.self.entries c.self.inside.old_rows c.args.at c.self.invariant c.if-self-at.false c.swap_indices.ensures.entries c.swap_indices.ensures.reordered.2 name
    (subst (λ (s : Indexes). HasIndexAt s.entries name c.args.at) (sym c.self.view_is) was)
