use Rattle.tg_model.proofs.NameLaws.{name_is_next}
use Rattle.tg_model.proofs.laws.a_name_is_given_once.Goals as goal

pub returns : goal.returns
returns c = name_is_next
