use Rattle.tg_revive.proofs.Reviving.{alike_after}
use Rattle.tg_revive.proofs.laws.a_snapshot_is_enough.Goals as goal

pub returns : goal.returns
returns c = alike_after
