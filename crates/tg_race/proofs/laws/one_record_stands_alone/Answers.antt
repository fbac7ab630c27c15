use Rattle.tg_race.proofs.Parts.{rule_of, parts_of}
use Rattle.tg_race.proofs.Steps.{alone_keeps}
use Rattle.tg_race.proofs.laws.one_record_stands_alone.Goals as goal

pub returns : goal.returns
returns c k r id v rule stands = rule_of _ _ (alone_keeps k r id v (parts_of k r rule) stands.0 stands.1)
