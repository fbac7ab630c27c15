use Rattle.tg_threads.specs.Race.{race_on}
use Rattle.tg_threads.proofs.RaceLaws.{race_finishes, raced_from}
use Rattle.tg_threads.proofs.race_on.run_race_on.Goals as goal

pub returns-clause-raced : goal.returns-clause-raced
returns-clause-raced g c =
    let s = g.S.Source in let k = g.K.Sink in
    raced_from s.left s.asked s.failures k.taken k.failures k.finished c.race_script-outcome.ensures.counts c.finish.ensures
    (race_on g.T.RaceTelling.race_text_on c.args.on.from) tt c.race_script-outcome.ensures.output c.race_script-outcome.ensures.due

pub returns-clause-finish : goal.returns-clause-finish
returns-clause-finish g c =
    let s = g.S.Source in let k = g.K.Sink in
    race_finishes s.left s.asked s.failures k.taken k.failures k.finished c.race_script-outcome.ensures.counts c.finish.ensures
