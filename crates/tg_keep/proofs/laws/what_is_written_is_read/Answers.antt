use Rattle.tg_keep.proofs.Writing.{own_text}
use Rattle.tg_keep.proofs.laws.what_is_written_is_read.Goals as goal

pub returns : goal.returns
returns c = own_text
