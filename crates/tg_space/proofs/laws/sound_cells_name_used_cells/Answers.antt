use Rattle.tg_space.proofs.Pointing.{pointers_sound}
use Rattle.tg_space.proofs.laws.sound_cells_name_used_cells.Goals as goal

pub returns : goal.returns
returns c = pointers_sound
