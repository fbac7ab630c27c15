use Rattle.std.proofs.Common.{◌≡◌, ◌∙◌, ◌-◌, ℕ, List, Err, ap, arith, length, subst}
use Rattle.tg_journal.specs.declared.entry.Entry.{Entry}
use Rattle.tg_script.specs.GoingOn.{GoneOn, scene_on}
use Rattle.tg_script.specs.Inner.GoingOn.{count_on}
use Rattle.tg_script.proofs.DueLaws.{asked_first, finished_read, sink_finished}
use Rattle.tg_script.proofs.GoingLaws.{begun_gone, finished_keeping, gone_finished, keeping_of, unbegun_gone}
use Rattle.tg_script.proofs.LinesLaws.{keeps_known}
use Rattle.tg_script.proofs.going.run_script_on.Goals as goal

pub returns-in-Ok : goal.returns-in-Ok
returns-in-Ok g c =
    let k = g.K.Sink in
    let s = g.S.Source in
    let w = g.W.Watch.refused in
    let from = c.args.from in
    let on = c.in-Ok.on in
    let is = c.in-Ok.ensures.begun in
    let all = c.go_on-outcome in
    let ended = c.finish.ensures.outcome in
    let count : count_on on ≡ length from.store.entries - from.skipped = ap (λ (es : List Entry). length es - on.skipped) is.entries ∙ ap (λ (n : ℕ). length from.store.entries - n) is.skipped in
    record {
      ran = λ bytes before leaves taken.
          let n = c.in-Ok.ensures.bytes bytes leaves in
          let told = all.ensures.gone (scene_on from) n.0 before is.shows n.1 (keeps_known (k.taken c.args.sink.now) (k.taken c.begin_on.new.sink) before taken c.in-Ok.ensures.streams.taken) in
          let gone = begun_gone c.args.means.entries (count_on on) all.result (scene_on from) on.begun.script bytes n.0 n.2.0 on.begun.first before told.0 (k.taken all.new.sink) (w c.args.watch.now) (w all.new.watch) is.first n.2.1 told.2 in (
            told.0,
            told.1,
            subst (λ (m : ℕ). GoneOn c.args.means.entries (scene_on from) m bytes before (w c.args.watch.now) c.finish.result told.0 (k.taken c.finish.new.sink) (w all.new.watch)) count
                (gone_finished c.args.means.entries (count_on on) all.result c.finish.result (scene_on from) bytes before told.0 (k.taken all.new.sink) (k.taken c.finish.new.sink) (w c.args.watch.now) (w all.new.watch) (k.failures all.new.sink) (k.failures c.finish.new.sink) gone ended),
          );
      fault = finished_keeping all.result c.finish.result (k.taken all.new.sink) (k.taken c.finish.new.sink) (k.failures all.new.sink) (k.failures c.finish.new.sink) (keeping_of all.result all.ensures.streams.fault) ended;
      asked = asked_first on.begun.first on.begun.script.lines.room (s.asked c.args.source.now) (s.asked c.begin_on.new.source) (s.asked all.new.source) all.ensures.streams.asked all.ensures.streams.unasked c.in-Ok.ensures.streams.asked c.in-Ok.ensures.streams.asked_of_line;
      read_failed = omega (arith, all.ensures.streams.failures.read_failed, c.in-Ok.ensures.streams.failures.read_failed, finished_read all.result c.finish.result (k.taken all.new.sink) (k.taken c.finish.new.sink) (k.failures all.new.sink) (k.failures c.finish.new.sink) ended);
      finish = sink_finished k.taken all.new.sink (omega (arith, c.in-Ok.ensures.streams.failures.write_failed, all.ensures.streams.failures.write_failed)) ended c.finish.ensures.finished;
    }

pub returns-in-Err : goal.returns-in-Err
returns-in-Err g c =
    let k = g.K.Sink in
    let s = g.S.Source in
    let w = g.W.Watch.refused in
    let from = c.args.from in
    let f = c.in-Err.fault in
    let streams = c.in-Err.ensures.streams in
    let ended = c.finish-in-Err.ensures.outcome in
    let end = c.finish-in-Err.result in
    let mid = k.taken c.begin_on.new.sink in
    let after = k.taken c.finish-in-Err.new.sink in
    record {
      ran = λ bytes before leaves taken.
          let n = c.in-Err.ensures.bytes bytes leaves in
          let saw = w c.args.watch.now in
          let count = length from.store.entries - from.skipped in
          let gone = unbegun_gone (Unit {0}) c.args.means.entries count f (scene_on from) bytes before n.0 mid saw saw n.2 (keeps_known (k.taken c.args.sink.now) mid before taken streams.taken) in
          (n.0, n.1, gone_finished c.args.means.entries count (Err f) end (scene_on from) bytes before n.0 mid after saw saw (k.failures c.begin_on.new.sink) (k.failures c.finish-in-Err.new.sink) gone ended);
      fault = finished_keeping (Err f) end mid after (k.failures c.begin_on.new.sink) (k.failures c.finish-in-Err.new.sink) streams.fault ended;
      asked = streams.asked;
      read_failed = omega (arith, streams.failures.read_failed, finished_read {T = Unit {0}} (Err f) end mid after (k.failures c.begin_on.new.sink) (k.failures c.finish-in-Err.new.sink) ended);
      finish = sink_finished k.taken c.begin_on.new.sink streams.failures.write_failed ended c.finish-in-Err.ensures.finished;
    }
