use Rattle.tg_kept.proofs.TextLaws.{lines_of_history}
use Rattle.tg_kept.proofs.laws.its_lines_are_a_history.Goals as goal

pub returns : goal.returns
returns c = lines_of_history
