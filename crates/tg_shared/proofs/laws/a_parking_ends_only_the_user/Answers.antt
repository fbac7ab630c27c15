use Rattle.tg_shared.proofs.ParkLaws.{park_denied, parks_only}
use Rattle.tg_shared.proofs.laws.a_parking_ends_only_the_user.Goals as goal

pub returns : goal.returns
returns c = record { done = parks_only; denied = park_denied }
