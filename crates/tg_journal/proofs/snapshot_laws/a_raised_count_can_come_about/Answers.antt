use Rattle.tg_journal.proofs.Wasted.{leads_to_unreached}
use Rattle.tg_journal.proofs.snapshot_laws.a_raised_count_can_come_about.Goals as goal

pub returns : goal.returns
returns c = leads_to_unreached
