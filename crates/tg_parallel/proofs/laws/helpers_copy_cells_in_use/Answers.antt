use Rattle.tg_parallel.proofs.Room.{moved_few}
use Rattle.tg_parallel.proofs.laws.helpers_copy_cells_in_use.Goals as goal

pub returns : goal.returns
returns c kind t roots is race = moved_few kind t roots race.counts race.words race.done is.table is.sound race.of_spaces race.closed race.earned
