use Rattle.std.proofs.Common.{Bool, sym, subst}
use Rattle.tg_threads.specs.Race.{RacesFrom, race_on}
use Rattle.tgstore.specs.Serving.{race_text_on_as}
use Rattle.tgstore.proofs.onward.race_onward.Goals as goal

pub returns-then-entries : goal.returns-then-entries
returns-then-entries g c =
    let s = g.S.Source in
    let new = c.run_race_on.new in
    record { raced = subst (λ (b : Bool). RacesFrom s.left s.asked s.failures g.K.Sink.taken c.args.source.now new.source c.args.sink.now new.sink (race_on (race_text_on_as b) c.args.on.from) c.run_race_on.result) (sym c.if-entries.true) c.run_race_on.ensures.raced }

pub returns-else-entries : goal.returns-else-entries
returns-else-entries g c =
    let s = g.S.Source in
    let new = c.run_race_on-else-entries.new in
    record { raced = subst (λ (b : Bool). RacesFrom s.left s.asked s.failures g.K.Sink.taken c.args.source.now new.source c.args.sink.now new.sink (race_on (race_text_on_as b) c.args.on.from) c.run_race_on-else-entries.result) (sym c.if-entries.false) c.run_race_on-else-entries.ensures.raced }
