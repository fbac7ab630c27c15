use Rattle.tg_shared.proofs.SpawnLaws.{seen_grows}
use Rattle.tg_shared.proofs.laws.what_a_session_has_seen_grows.Goals as goal

pub returns : goal.returns
returns c = seen_grows
