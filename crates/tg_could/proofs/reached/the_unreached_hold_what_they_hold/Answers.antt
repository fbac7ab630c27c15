use Rattle.tg_could.proofs.ReachedLaws.{unreached_row}
use Rattle.tg_could.proofs.reached.the_unreached_hold_what_they_hold.Goals as goal

pub returns : goal.returns
returns c g x sound made unreached turns are y = unreached_row (λ p. ⊥) turns g x sound made unreached are y
