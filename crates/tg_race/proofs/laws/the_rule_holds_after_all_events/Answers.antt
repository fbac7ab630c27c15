use Rattle.tg_race.specs.Course.{starting}
use Rattle.tg_race.proofs.Courses.{keeps, events_keep, start_kept}
use Rattle.tg_race.proofs.laws.the_rule_holds_after_all_events.Goals as goal

pub returns : goal.returns
returns c = record { event = λ c helper e kept h. keeps c helper e kept h; events = λ net events. events_keep (starting net) events (start_kept net) }
