use Rattle.tg_entries.proofs.CountLaws.{history_unjoined}
use Rattle.tg_entries.proofs.laws.a_sum_may_go.Goals as goal

pub returns : goal.returns
returns c = history_unjoined
