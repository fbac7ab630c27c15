use Rattle.tg_race.proofs.Closure.{closed_course}
use Rattle.tg_race.proofs.laws.a_closed_table_is_the_closure.Goals as goal

pub returns : goal.returns
returns c net words done complete earned = closed_course net words done complete.0 earned complete.1
