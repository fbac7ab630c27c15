use Rattle.tg_journal.proofs.GoingOn.{continues-sound, continues-opened}
use Rattle.tg_journal.proofs.snapshot_laws.histories_go_on_from_a_snapshot.Goals as goal

pub returns : goal.returns
returns c = record { sound = continues-sound; opened = continues-opened }
