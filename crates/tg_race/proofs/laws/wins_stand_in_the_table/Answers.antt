use Rattle.tg_race.proofs.Standing.{won_place, won_stands}
use Rattle.tg_race.proofs.laws.wins_stand_in_the_table.Goals as goal

pub returns : goal.returns
returns c = record { words = won_stands; places = won_place }
