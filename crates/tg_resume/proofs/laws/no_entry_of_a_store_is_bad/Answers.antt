use Rattle.tg_resume.proofs.Parts.{none_is_bad}
use Rattle.tg_resume.proofs.laws.no_entry_of_a_store_is_bad.Goals as goal

pub returns : goal.returns
returns c = none_is_bad
