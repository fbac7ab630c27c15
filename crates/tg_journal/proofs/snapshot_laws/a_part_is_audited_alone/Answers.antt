use Rattle.tg_journal.proofs.SavingLaws.{passes_part, passes_whole}
use Rattle.tg_journal.proofs.snapshot_laws.a_part_is_audited_alone.Goals as goal

pub returns : goal.returns
returns c = record { whole = passes_whole; part = passes_part }
