use Rattle.tg_journal.proofs.SnapshotLaws.{snapshot_alike}
use Rattle.tg_journal.proofs.snapshot_laws.a_snapshot_is_enough.Goals as goal

pub returns : goal.returns
returns c = snapshot_alike
