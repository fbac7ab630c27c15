use Rattle.tg_shared.proofs.ClosedLaws.{graph_has, of_the_closed}
use Rattle.tg_shared.proofs.laws.an_answer_is_of_the_closed_journal.Goals as goal

pub returns : goal.returns
returns c = record { seen = graph_has; closed = of_the_closed }
