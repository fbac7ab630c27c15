use Rattle.tg_race.proofs.Standing.{closed_pairs}
use Rattle.tg_race.proofs.laws.a_closed_table_has_the_wins.Goals as goal

pub returns : goal.returns
returns c = closed_pairs
