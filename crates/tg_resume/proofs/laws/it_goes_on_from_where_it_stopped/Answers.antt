use Rattle.tg_resume.proofs.Parts.{resumed_on_from}
use Rattle.tg_resume.proofs.laws.it_goes_on_from_where_it_stopped.Goals as goal

pub returns : goal.returns
returns c = resumed_on_from
