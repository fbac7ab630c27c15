use Rattle.tg_journal.proofs.AlikeLaws.{swept_alike}
use Rattle.tg_journal.proofs.laws.the_unreached_may_be_forgotten.Goals as goal

pub returns : goal.returns
returns c = λ g kept swept come is. swept_alike g kept come swept is
