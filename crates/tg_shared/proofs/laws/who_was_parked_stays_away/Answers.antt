use Rattle.tg_shared.proofs.ParkLaws.{stays_parked}
use Rattle.tg_shared.proofs.laws.who_was_parked_stays_away.Goals as goal

pub returns : goal.returns
returns c = λ old new later p edges faithful did grows. stays_parked old new later p edges grows.entries faithful did grows.opening grows.all
