use Rattle.tg_shared.proofs.PartLaws.{ones}
use Rattle.tg_shared.proofs.laws.each_stands_for_itself.Goals as goal

pub returns : goal.returns
returns c = ones
