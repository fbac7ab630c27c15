use Rattle.tg_store.proofs.WithdrawLaws.{never_again}
use Rattle.tg_store.proofs.laws.withdrawn_rights_never_come_back.Goals as goal

pub returns : goal.returns
returns c = never_again
