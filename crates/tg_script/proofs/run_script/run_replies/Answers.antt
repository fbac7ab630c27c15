use Rattle.std.proofs.Common.{arith, Err, false}
use Rattle.tg_script.specs.Inner.Beginning.{plan_with, scene_with}
use Rattle.tg_script.specs.Script.{start_of_setup}
use Rattle.tg_script.proofs.RanLaws.{ran_finished, ran_first, ran_unbegun}
use Rattle.tg_script.proofs.MarkLaws.{on_ok, replies_seen, runs_seen, seen_finished}
use Rattle.tg_script.proofs.DueLaws.{runs_begun, runs_finished, runs_unbegun, sink_finished}
use Rattle.tg_script.proofs.run_script.run_replies.Goals as goal

pub returns-in-Ok-clause-ran : goal.returns-in-Ok-clause-ran
returns-in-Ok-clause-ran g c =
    let k = g.K.Sink in
    let start = start_of_setup c.args.setup in
    let begun = c.in-Ok.begun in
    let edges = begun.run.store.opening.plan.edges in
    let is = c.in-Ok.ensures.begun in
    let lines = c.run_commands-outcome in
    let ended = c.finish.ensures.outcome in
    runs_finished k.failures (runs_begun c.in-Ok.ensures.bytes c.in-Ok.ensures.streams lines.ensures.streams
    (λ bytes rest before leaves taken reads.
    let told = lines.ensures.written (scene_with start edges) rest before is.shows leaves taken in
    (told.0, told.1, ran_first lines.result start begun.script bytes rest edges begun.first before told.0 begun.run.store.entries lines.new.begun.run.store.entries (k.taken lines.new.sink) is.can is.first reads told.2)))
    ended (λ bytes before rest ran. ran_finished lines.result c.finish.result start bytes before rest (k.taken lines.new.sink) (k.taken c.finish.new.sink) (k.failures lines.new.sink) (k.failures c.finish.new.sink) ran ended)

pub returns-in-Ok-clause-finish : goal.returns-in-Ok-clause-finish
returns-in-Ok-clause-finish g c =
    sink_finished g.K.Sink.taken c.run_commands-outcome.new.sink (omega (arith, c.in-Ok.ensures.streams.failures.write_failed, c.run_commands-outcome.ensures.streams.failures.write_failed)) c.finish.ensures.outcome c.finish.ensures.finished

pub returns-in-Err-clause-ran : goal.returns-in-Err-clause-ran
returns-in-Err-clause-ran g c =
    let k = g.K.Sink in
    let start = start_of_setup c.args.setup in
    let f = c.in-Err.fault in
    let ended = c.finish-in-Err.ensures.outcome in
    runs_finished k.failures (runs_unbegun c.in-Err.ensures.bytes c.in-Err.ensures.streams (λ bytes before rest after h same. ran_unbegun (Unit {0}) f start bytes before rest after h same))
    ended (λ bytes before rest ran. ran_finished (Err f) c.finish-in-Err.result start bytes before rest (k.taken c.begin.new.sink) (k.taken c.finish-in-Err.new.sink) (k.failures c.begin.new.sink) (k.failures c.finish-in-Err.new.sink) ran ended)

pub returns-in-Err-clause-finish : goal.returns-in-Err-clause-finish
returns-in-Err-clause-finish g c = sink_finished g.K.Sink.taken c.begin.new.sink c.in-Err.ensures.streams.failures.write_failed c.finish-in-Err.ensures.outcome c.finish-in-Err.ensures.finished

pub returns-in-Ok-clause-seen : goal.returns-in-Ok-clause-seen
returns-in-Ok-clause-seen g c =
    let s = g.S.Source in
    let k = g.K.Sink in
    let start = start_of_setup c.args.setup in
    let begun = c.in-Ok.begun in
    let edges = begun.run.store.opening.plan.edges in
    let is = c.in-Ok.ensures.begun in
    let lines = c.run_commands-outcome in
    let saw = g.W.Watch.refused c.args.watch.now in
    let saw' = g.W.Watch.refused lines.new.watch in
    let left = s.left c.args.source.now in
    let left' = s.left lines.new.source in
    let taken = k.taken c.args.sink.now in
    let mid = k.taken lines.new.sink in
    seen_finished false start left left' taken mid (k.taken c.finish.new.sink) saw saw' lines.result c.finish.result (k.failures lines.new.sink) (k.failures c.finish.new.sink) c.finish.ensures.outcome
    (on_ok lines.result
    (λ had. runs_seen false start edges begun.script begun.first left (s.left c.begin.new.source) left' taken (k.taken c.begin.new.sink) mid saw saw' is.first c.in-Ok.ensures.bytes c.in-Ok.ensures.streams.taken
    (λ rest before leaves takes.
    let told = had (scene_with start edges) rest before is.shows leaves takes in
    (told.0, told.1, replies_seen saw saw' begun.script rest (scene_with start edges) begun.first (plan_with start edges) begun.run.store.entries before told.0 lines.new.begun.run.store.entries mid told.2)))
    lines.ensures.seen)

pub returns-in-Err-clause-seen : goal.returns-in-Err-clause-seen
returns-in-Err-clause-seen g c =
    let s = g.S.Source in
    let k = g.K.Sink in
    let saw = g.W.Watch.refused c.args.watch.now in
    seen_finished false (start_of_setup c.args.setup) (s.left c.args.source.now) (s.left c.begin.new.source) (k.taken c.args.sink.now) (k.taken c.begin.new.sink) (k.taken c.finish-in-Err.new.sink) saw saw (Err c.in-Err.fault) c.finish-in-Err.result (k.failures c.begin.new.sink) (k.failures c.finish-in-Err.new.sink) c.finish-in-Err.ensures.outcome tt
