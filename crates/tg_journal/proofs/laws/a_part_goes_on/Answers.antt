use Rattle.tg_journal.proofs.AuditLaws.{part_goes_on}
use Rattle.tg_journal.proofs.laws.a_part_goes_on.Goals as goal

pub returns : goal.returns
returns c = λ g old new first entries was fed. part_goes_on g old new first entries was fed
