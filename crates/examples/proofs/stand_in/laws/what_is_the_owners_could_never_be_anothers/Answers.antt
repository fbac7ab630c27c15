use Rattle.examples.proofs.AloneLaws.{alone-never}
use Rattle.examples.proofs.stand_in.laws.what_is_the_owners_could_never_be_anothers.Goals as goal

pub returns : goal.returns
returns c = alone-never
