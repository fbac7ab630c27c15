use Rattle.tg_resume.proofs.Parts.{resumed_both}
use Rattle.tg_resume.proofs.laws.parts_join.Goals as goal

pub returns : goal.returns
returns c = resumed_both
