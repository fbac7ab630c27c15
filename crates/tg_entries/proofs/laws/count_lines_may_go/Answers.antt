use Rattle.tg_entries.proofs.CountLaws.{history_plain}
use Rattle.tg_entries.proofs.laws.count_lines_may_go.Goals as goal

pub returns : goal.returns
returns c = history_plain
