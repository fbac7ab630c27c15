use Rattle.tg_shared.proofs.WithdrawLaws.{withdraws_only}
use Rattle.tg_shared.proofs.laws.a_withdrawal_ends_nobody.Goals as goal

pub returns : goal.returns
returns c = withdraws_only
