use Rattle.tg_entries.proofs.CountLaws.{history_goes_on}
use Rattle.tg_entries.proofs.laws.a_text_goes_on.Goals as goal

pub returns : goal.returns
returns c = history_goes_on
