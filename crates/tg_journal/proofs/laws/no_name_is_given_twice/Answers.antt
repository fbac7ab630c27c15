use Rattle.tg_journal.proofs.NameLaws.{one_place}
use Rattle.tg_journal.proofs.laws.no_name_is_given_twice.Goals as goal

pub returns : goal.returns
returns c g es at other name legal one two = one_place g es at other one.entry two.entry name legal one.stands two.stands one.answers two.answers
