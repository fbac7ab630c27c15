use Rattle.tg_space.proofs.Tracing.{closure_is_won}
use Rattle.tg_space.proofs.laws.traced_and_complete_is_the_closure.Goals as goal

pub returns : goal.returns
returns c = closure_is_won
