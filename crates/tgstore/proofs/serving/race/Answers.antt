use Rattle.std.proofs.Common.{Bool, sym, subst}
use Rattle.tg_script.specs.Script.{start_of_setup}
use Rattle.tg_threads.specs.Race.{RacesFrom, race_from}
use Rattle.tgstore.specs.Serving.{race_text_as}
use Rattle.tgstore.proofs.serving.race.Goals as goal

pub returns-then-entries-clause-raced : goal.returns-then-entries-clause-raced
returns-then-entries-clause-raced g c =
    let s = g.S.Source in
    let start = start_of_setup c.args.setup in
    let new = c.run_race.new in
    subst (λ (b : Bool). RacesFrom s.left s.asked s.failures g.K.Sink.taken c.args.source.now new.source c.args.sink.now new.sink (race_from (race_text_as b) start) c.run_race.result) (sym c.if-entries.true) c.run_race.ensures.raced

pub returns-else-entries-clause-raced : goal.returns-else-entries-clause-raced
returns-else-entries-clause-raced g c =
    let s = g.S.Source in
    let start = start_of_setup c.args.setup in
    let new = c.run_race-else-entries.new in
    subst (λ (b : Bool). RacesFrom s.left s.asked s.failures g.K.Sink.taken c.args.source.now new.source c.args.sink.now new.sink (race_from (race_text_as b) start) c.run_race-else-entries.result) (sym c.if-entries.false) c.run_race-else-entries.ensures.raced
