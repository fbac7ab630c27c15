use Rattle.tg_snapshot.proofs.FaultLaws.{IsFault-no_snapshot, IsFault-only}
use Rattle.tg_snapshot.proofs.laws.a_fault_is_the_only_one.Goals as goal

pub returns : goal.returns
returns c = record { no_snapshot = IsFault-no_snapshot; only = IsFault-only }
