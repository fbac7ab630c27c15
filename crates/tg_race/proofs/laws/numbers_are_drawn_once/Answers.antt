use Rattle.tg_race.proofs.Drawn.{drawn_once, drawn_below, drawn_above}
use Rattle.tg_race.proofs.laws.numbers_are_drawn_once.Goals as goal

pub returns : goal.returns
returns c = record { drawn = drawn_once; below = drawn_below; above = drawn_above }
