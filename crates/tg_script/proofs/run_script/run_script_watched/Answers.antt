use Rattle.std.proofs.Common.{Bool, sym, subst}
use Rattle.std.specs.Prelude.{OnOk}
use Rattle.tg_script.specs.Entering.{RanAs}
use Rattle.tg_script.specs.Running.{RunsAs}
use Rattle.tg_script.specs.Script.{start_of_setup}
use Rattle.tg_script.specs.Watching.{SeesFrom}
use Rattle.tg_script.proofs.run_script.run_script_watched.Goals as goal

pub returns-then-means-clause-ran : goal.returns-then-means-clause-ran
returns-then-means-clause-ran g c =
    let s = g.S.Source in
    let ran = c.run_entries in
    subst (λ (b : Bool). RunsAs (RanAs {T = Unit {0}} b) s.left s.asked s.failures g.K.Sink.taken c.args.source.now ran.new.source c.args.sink.now ran.new.sink (start_of_setup c.args.setup) ran.result)
    (sym c.if-means.true) ran.ensures.entered

pub returns-then-means-clause-seen : goal.returns-then-means-clause-seen
returns-then-means-clause-seen g c =
    let ran = c.run_entries in
    subst (λ (b : Bool). OnOk ran.result (SeesFrom g.S.Source.left g.K.Sink.taken g.W.Watch.refused c.args.source.now ran.new.source c.args.sink.now ran.new.sink c.args.watch.now ran.new.watch b (start_of_setup c.args.setup)))
    (sym c.if-means.true) ran.ensures.seen

pub returns-else-means-clause-ran : goal.returns-else-means-clause-ran
returns-else-means-clause-ran g c =
    let s = g.S.Source in
    let ran = c.run_replies in
    subst (λ (b : Bool). RunsAs (RanAs {T = Unit {0}} b) s.left s.asked s.failures g.K.Sink.taken c.args.source.now ran.new.source c.args.sink.now ran.new.sink (start_of_setup c.args.setup) ran.result)
    (sym c.if-means.false) ran.ensures.ran

pub returns-else-means-clause-seen : goal.returns-else-means-clause-seen
returns-else-means-clause-seen g c =
    let ran = c.run_replies in
    subst (λ (b : Bool). OnOk ran.result (SeesFrom g.S.Source.left g.K.Sink.taken g.W.Watch.refused c.args.source.now ran.new.source c.args.sink.now ran.new.sink c.args.watch.now ran.new.watch b (start_of_setup c.args.setup)))
    (sym c.if-means.false) ran.ensures.seen
