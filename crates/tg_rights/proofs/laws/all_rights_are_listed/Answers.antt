use Rattle.tg_rights.proofs.RightNames.{is_listed}
use Rattle.tg_rights.proofs.laws.all_rights_are_listed.Goals as goal

pub returns : goal.returns
returns c = is_listed
