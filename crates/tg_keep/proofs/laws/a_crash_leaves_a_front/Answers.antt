use Rattle.tg_keep.proofs.Reading.{texts_fronts}
use Rattle.tg_keep.proofs.laws.a_crash_leaves_a_front.Goals as goal

pub returns : goal.returns
returns c = texts_fronts
