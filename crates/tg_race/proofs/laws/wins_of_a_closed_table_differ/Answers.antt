use Rattle.tg_race.proofs.Closed.{cells_differ, places_differ, one_cell}
use Rattle.tg_race.proofs.laws.wins_of_a_closed_table_differ.Goals as goal

pub returns : goal.returns
returns c = record { cells = cells_differ; places = places_differ; one_cell = one_cell }
