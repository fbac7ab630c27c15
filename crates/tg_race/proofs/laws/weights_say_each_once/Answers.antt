use Rattle.tg_race.proofs.Plain.{drawn_is, wins_are}
use Rattle.tg_race.proofs.laws.weights_say_each_once.Goals as goal

pub returns : goal.returns
returns c = record { drawn = drawn_is; won = wins_are }
