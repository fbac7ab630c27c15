use Rattle.tg_threads.specs.Race.{race_from}
use Rattle.tg_script.specs.Script.{start_with}
use Rattle.tg_threads.proofs.RaceLaws.{race_finishes, raced_from}
use Rattle.tg_threads.proofs.race.run_race.Goals as goal

pub returns-clause-raced : goal.returns-clause-raced
returns-clause-raced g c =
    let s = g.S.Source in let k = g.K.Sink in
    raced_from s.left s.asked s.failures k.taken k.failures k.finished c.race-outcome.ensures.counts c.finish.ensures
    (race_from g.T.RaceTelling.race_text (start_with c.args.settings c.args.workers.items c.args.stock.items)) tt c.race-outcome.ensures.output c.race-outcome.ensures.due

pub returns-clause-finish : goal.returns-clause-finish
returns-clause-finish g c =
    let s = g.S.Source in let k = g.K.Sink in
    race_finishes s.left s.asked s.failures k.taken k.failures k.finished c.race-outcome.ensures.counts c.finish.ensures
