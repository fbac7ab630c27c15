use Rattle.tg_passes.proofs.Signing.{whole}
use Rattle.tg_shared.proofs.laws.who_looked_sees.Goals as goal

pub returns : goal.returns
returns c = λ old new looked. record { own = looked.own; front = whole new.seen; within = looked.own }
