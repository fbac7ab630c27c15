use Rattle.tg_shared.proofs.ParkLaws.{unpark_denied, unparks_only}
use Rattle.tg_shared.proofs.laws.an_unparking_ends_nobody.Goals as goal

pub returns : goal.returns
returns c = record { done = unparks_only; denied = unpark_denied }
