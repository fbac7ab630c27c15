-- Both that the owner makes are its own alone.
use Rattle.examples.proofs.stand_in.desk.desk_of.Goals as goal

pub furnish-requires : goal.furnish-requires
furnish-requires g c = record { untaken = c.requires.untaken }

pub invariant_of-result : goal.invariant_of-result
invariant_of-result g c = c.in-Ok.ensures
