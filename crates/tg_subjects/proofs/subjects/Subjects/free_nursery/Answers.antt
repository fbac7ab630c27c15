use Rattle.std.proofs.Common.{◌<◌, arith, length, ◌∙◌}
use Rattle.tg_word.specs.declared.TheConstants.{MAX_NURSERIES}
use Rattle.tg_subjects.proofs.HeldLaws.{least_by_bits}
use Rattle.tg_subjects.proofs.subjects.Subjects.free_nursery.Goals as goal

pub returns : goal.returns
returns c =
    let few : length c.self.inside.items.items < MAX_NURSERIES = rw c.self.view_is c.requires in
    rw (← c.self.view_is, c.from.ensures ∙ c.trailing_ones.ensures) (least_by_bits c.self.inside.items.items c.self.inside.held (omega arith) c.self.invariant.2 few)
