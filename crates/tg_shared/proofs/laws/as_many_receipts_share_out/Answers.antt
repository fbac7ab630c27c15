use Rattle.tg_shared.proofs.Sharing.{shared_out}
use Rattle.tg_shared.proofs.laws.as_many_receipts_share_out.Goals as goal

pub returns : goal.returns
returns c = shared_out
