use Rattle.tg_store.proofs.HandLaws.{may_hand, not_denied_where}
use Rattle.tg_store.proofs.laws.a_hand_is_denied_unless_it_is_allowed.Goals as goal

pub returns : goal.returns
returns c = λ g h. (not_denied_where g h, may_hand g h)
