use Rattle.tg_shared.proofs.Leavings.{stays_away}
use Rattle.tg_shared.proofs.laws.who_left_stays_away.Goals as goal

pub returns : goal.returns
returns c = λ old new later worker faithful here left grows. stays_away old new later worker grows.entries faithful here left grows.opening grows.all
