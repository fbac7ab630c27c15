use Rattle.tg_shared.proofs.WithdrawLaws.{stays_withdrawn}
use Rattle.tg_shared.proofs.laws.withdrawn_rights_stay_away.Goals as goal

pub returns : goal.returns
returns c = stays_withdrawn c.withdrawn_rights_never_come_back.ensures
