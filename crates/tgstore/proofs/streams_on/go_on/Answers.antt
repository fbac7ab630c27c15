use Rattle.std.proofs.Common.{subst, sym}
use Rattle.tgstore.specs.Resumed.{GoesOnBy}
use Rattle.tgstore.specs.declared.onward.Onward.{Onward}
use Rattle.tgstore.specs.declared.stop.Stop.TheVariants as stop
use Rattle.tgstore.proofs.ResumedLaws.{raced_on, went_on}
use Rattle.tgstore.proofs.ServingLaws.{is_told}
use Rattle.tgstore.proofs.streams_on.go_on.Goals as goal

pub returns-in-Lines : goal.returns-in-Lines
returns-in-Lines g c =
    let s = g.S.Source in
    let k = g.K.Sink in
    let w = g.W.Watch in
    let new = c.run_script_on.new in
    subst (λ (x : Onward _). GoesOnBy c.args.entries x (s.left c.args.source.now) (s.left new.source) (k.taken c.args.sink.now) (k.taken new.sink) (w.refused c.args.watch.now) (w.refused new.watch) c.map_err.result) (sym c.in-Lines.is)
    (λ bytes before left taken.
    let had = c.run_script_on.ensures.ran bytes before left taken in
    let is = is_told stop.Script c.run_script_on.result c.map_err.result c.map_err.ensures.cases in
    (had.0, had.1, went_on c.args.entries c.in-Lines.from bytes before (w.refused c.args.watch.now) (w.refused new.watch) c.run_script_on.result c.map_err.result had.0 (k.taken new.sink) is had.2))

pub returns-in-Race : goal.returns-in-Race
returns-in-Race g c =
    let s = g.S.Source in
    let k = g.K.Sink in
    let w = g.W.Watch in
    let new = c.race_onward.new in
    let told = c.map_err-in-Race in
    subst (λ (x : Onward _). GoesOnBy c.args.entries x (s.left c.args.source.now) (s.left new.source) (k.taken c.args.sink.now) (k.taken new.sink) (w.refused c.args.watch.now) (w.refused c.args.watch.now) told.result) (sym c.in-Race.is)
    (λ bytes before left taken.
    let had = c.race_onward.ensures.raced.output bytes before left taken in
    let is = is_told stop.Race c.race_onward.result told.result told.ensures.cases in
    (had.0, had.1, raced_on c.args.entries c.in-Race.on bytes before (w.refused c.args.watch.now) c.race_onward.result told.result had.0 (k.taken new.sink) is had.2))
