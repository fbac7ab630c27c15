use Rattle.tg_journal.proofs.SavingLaws.{CanBeSaved-after, CanBeSaved-opened, CanBeSaved-shown}
use Rattle.tg_journal.proofs.snapshot_laws.graphs_can_be_saved.Goals as goal

pub returns : goal.returns
returns c = record { opened = CanBeSaved-opened; shown = CanBeSaved-shown; after = CanBeSaved-after }
