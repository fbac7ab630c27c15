use Rattle.tg_shared.proofs.ClosedLaws.{label_closed}
use Rattle.tg_shared.proofs.laws.a_label_is_of_the_closed_journal.Goals as goal

pub returns : goal.returns
returns c = label_closed
