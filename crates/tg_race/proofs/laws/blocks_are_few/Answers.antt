use Rattle.tg_race.proofs.Steps.{aged_few, old_few, won_few}
use Rattle.tg_race.proofs.laws.blocks_are_few.Goals as goal

pub returns : goal.returns
returns c = record { aged_blocks = aged_few; old_blocks = old_few; wins = won_few }
