use Rattle.examples.proofs.AloneLaws.{left-after, reads-tell}
use Rattle.examples.proofs.stand_in.laws.to_stop_is_to_take_back.Goals as goal

pub returns : goal.returns
returns c = record { left = left-after; told = reads-tell }
