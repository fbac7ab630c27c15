use Rattle.examples.proofs.AloneLaws.{alone-after}
use Rattle.examples.proofs.stand_in.laws.what_is_never_handed_on_stays_the_owners.Goals as goal

pub returns : goal.returns
returns c = alone-after
