use Rattle.tg_race.proofs.Standing.{closed_aged_few, closed_aged_filled, closed_old_few, closed_old_filled}
use Rattle.tg_race.proofs.laws.claimed_blocks_are_few.Goals as goal

pub returns : goal.returns
returns c = record { aged_blocks = closed_aged_few; old_blocks = closed_old_few; aged_filled = closed_aged_filled; old_filled = closed_old_filled }
