use Rattle.tg_shared.proofs.EndLaws.{named_ended}
use Rattle.tg_shared.proofs.laws.an_end_is_of_the_named_worker.Goals as goal

pub returns : goal.returns
returns c = named_ended
