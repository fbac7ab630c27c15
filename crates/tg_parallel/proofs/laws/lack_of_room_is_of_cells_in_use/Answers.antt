use Rattle.tg_parallel.proofs.Reached.{lacks_used}
use Rattle.tg_parallel.proofs.laws.lack_of_room_is_of_cells_in_use.Goals as goal

pub returns : goal.returns
returns g kind t roots is space_blocks helpers kept = lacks_used kind t roots space_blocks helpers kept is.table is.sound
