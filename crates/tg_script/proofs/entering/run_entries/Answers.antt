use Rattle.std.proofs.Common.{ap, arith, subst, Err, true}
use Rattle.tg_model.specs.Opened.{Plan}
use Rattle.tg_store.specs.Origin.{Origin}
use Rattle.tg_script.specs.Inner.Beginning.{scene_with}
use Rattle.tg_script.specs.Inner.Marks.{AnswersSeen}
use Rattle.tg_script.specs.Inner.Telling.{EntersAll}
use Rattle.tg_script.specs.Script.{start_of_setup}
use Rattle.tg_script.proofs.MarkLaws.{on_ok, runs_seen, seen_finished}
use Rattle.tg_script.proofs.DueLaws.{runs_begun, runs_finished, runs_unbegun, sink_finished}
use Rattle.tg_script.proofs.EnteringLaws.{entering_finished, entering_unbegun, ran_entering}
use Rattle.tg_script.proofs.entering.run_entries.Goals as goal

pub returns-in-Ok-clause-entered : goal.returns-in-Ok-clause-entered
returns-in-Ok-clause-entered g c =
    let k = g.K.Sink in
    let start = start_of_setup c.args.setup in
    let begun = c.in-Ok.begun in
    let edges = begun.run.store.opening.plan.edges in
    let is = c.in-Ok.ensures.begun in
    let all = c.enter_all-outcome in
    let ended = c.finish.ensures.outcome in
    runs_finished k.failures (runs_begun c.in-Ok.ensures.bytes c.in-Ok.ensures.streams all.ensures.streams
    (λ bytes rest before leaves taken reads.
    let told = all.ensures.written (scene_with start edges) rest before is.shows leaves taken in (
      told.0,
      told.1,
      ran_entering all.result start begun.script bytes rest edges begun.first before told.0 (k.taken all.new.sink) is.can is.first reads
          (subst (λ (p : Plan). EntersAll begun.script rest (scene_with start edges) begun.first p before all.result told.0 (k.taken all.new.sink)) (ap (λ (o : Origin). o.plan) is.opening) told.2),
    )))
    ended (λ bytes before rest ran. entering_finished all.result c.finish.result start bytes before rest (k.taken all.new.sink) (k.taken c.finish.new.sink) (k.failures all.new.sink) (k.failures c.finish.new.sink) ran ended)

pub returns-in-Ok-clause-finish : goal.returns-in-Ok-clause-finish
returns-in-Ok-clause-finish g c =
    sink_finished g.K.Sink.taken c.enter_all-outcome.new.sink (omega (arith, c.in-Ok.ensures.streams.failures.write_failed, c.enter_all-outcome.ensures.streams.failures.write_failed)) c.finish.ensures.outcome c.finish.ensures.finished

pub returns-in-Err-clause-entered : goal.returns-in-Err-clause-entered
returns-in-Err-clause-entered g c =
    let k = g.K.Sink in
    let start = start_of_setup c.args.setup in
    let f = c.in-Err.fault in
    let ended = c.finish-in-Err.ensures.outcome in
    runs_finished k.failures (runs_unbegun c.in-Err.ensures.bytes c.in-Err.ensures.streams (λ bytes before rest after h same. entering_unbegun (Unit {0}) f start bytes before rest after h same))
    ended (λ bytes before rest ran. entering_finished (Err f) c.finish-in-Err.result start bytes before rest (k.taken c.begin.new.sink) (k.taken c.finish-in-Err.new.sink) (k.failures c.begin.new.sink) (k.failures c.finish-in-Err.new.sink) ran ended)

pub returns-in-Err-clause-finish : goal.returns-in-Err-clause-finish
returns-in-Err-clause-finish g c = sink_finished g.K.Sink.taken c.begin.new.sink c.in-Err.ensures.streams.failures.write_failed c.finish-in-Err.ensures.outcome c.finish-in-Err.ensures.finished

pub returns-in-Ok-clause-seen : goal.returns-in-Ok-clause-seen
returns-in-Ok-clause-seen g c =
    let s = g.S.Source in
    let k = g.K.Sink in
    let start = start_of_setup c.args.setup in
    let begun = c.in-Ok.begun in
    let edges = begun.run.store.opening.plan.edges in
    let is = c.in-Ok.ensures.begun in
    let all = c.enter_all-outcome in
    let saw = g.W.Watch.refused c.args.watch.now in
    let saw' = g.W.Watch.refused all.new.watch in
    let left = s.left c.args.source.now in
    let left' = s.left all.new.source in
    let taken = k.taken c.args.sink.now in
    let mid = k.taken all.new.sink in
    seen_finished true start left left' taken mid (k.taken c.finish.new.sink) saw saw' all.result c.finish.result (k.failures all.new.sink) (k.failures c.finish.new.sink) c.finish.ensures.outcome
    (on_ok all.result
    (λ had. runs_seen true start edges begun.script begun.first left (s.left c.begin.new.source) left' taken (k.taken c.begin.new.sink) mid saw saw' is.first c.in-Ok.ensures.bytes c.in-Ok.ensures.streams.taken
    (λ rest before leaves takes.
    let told = had (scene_with start edges) rest before is.shows leaves takes in
    (told.0, told.1, subst (λ (p : Plan). AnswersSeen true begun.script rest (scene_with start edges) begun.first p before told.0 mid saw saw') (ap (λ (o : Origin). o.plan) is.opening) told.2)))
    all.ensures.seen)

pub returns-in-Err-clause-seen : goal.returns-in-Err-clause-seen
returns-in-Err-clause-seen g c =
    let s = g.S.Source in
    let k = g.K.Sink in
    let saw = g.W.Watch.refused c.args.watch.now in
    seen_finished true (start_of_setup c.args.setup) (s.left c.args.source.now) (s.left c.begin.new.source) (k.taken c.args.sink.now) (k.taken c.begin.new.sink) (k.taken c.finish-in-Err.new.sink) saw saw (Err c.in-Err.fault) c.finish-in-Err.result (k.failures c.begin.new.sink) (k.failures c.finish-in-Err.new.sink) c.finish-in-Err.ensures.outcome tt
