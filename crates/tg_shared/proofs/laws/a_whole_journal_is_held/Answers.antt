use Rattle.tg_shared.proofs.Sharing.{whole_held}
use Rattle.tg_shared.proofs.laws.a_whole_journal_is_held.Goals as goal

pub returns : goal.returns
returns c = λ start s stays. whole_held start s stays.gone_on stays.whole
