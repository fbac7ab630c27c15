use Rattle.tg_keep.proofs.Damage.{no_damage}
use Rattle.tg_keep.proofs.laws.a_torn_batch_is_no_damage.Goals as goal

pub returns : goal.returns
returns c front written left whole once kept = no_damage front written left whole kept once
