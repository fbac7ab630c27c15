use Rattle.tg_revive.proofs.Reviving.{none_is_bad}
use Rattle.tg_revive.proofs.laws.no_entry_of_a_text_is_bad.Goals as goal

pub returns : goal.returns
returns c = none_is_bad
