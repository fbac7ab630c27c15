use Rattle.tg_store.proofs.WithdrawLaws.{label_kept, nothing_left, rest_kept}
use Rattle.tg_store.proofs.laws.a_withdrawal_takes_exactly_these_rights.Goals as goal

pub returns-clause-givers : goal.returns-clause-givers
returns-clause-givers c = nothing_left

pub returns-clause-others : goal.returns-clause-others
returns-clause-others c = label_kept

pub returns-clause-rest : goal.returns-clause-rest
returns-clause-rest c = rest_kept
