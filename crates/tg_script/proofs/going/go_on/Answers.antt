use Rattle.std.proofs.Common.{Bool, subst, sym}
use Rattle.tg_script.specs.Inner.GoingOn.{GoesBy}
use Rattle.tg_script.proofs.going.go_on.Goals as goal

pub returns-then-means-clause-gone : goal.returns-then-means-clause-gone
returns-then-means-clause-gone g c =
    let ran = c.enter_on in
    subst (λ (b : Bool). GoesBy {T = Unit {0}} g.S.Source.left g.K.Sink.taken g.W.Watch.refused b c.args.source.now ran.new.source c.args.sink.now ran.new.sink c.args.watch.now ran.new.watch c.args.on.now ran.result)
    (sym c.if-means.true) ran.ensures.gone

pub returns-else-means-clause-gone : goal.returns-else-means-clause-gone
returns-else-means-clause-gone g c =
    let ran = c.reply_on in
    subst (λ (b : Bool). GoesBy {T = Unit {0}} g.S.Source.left g.K.Sink.taken g.W.Watch.refused b c.args.source.now ran.new.source c.args.sink.now ran.new.sink c.args.watch.now ran.new.watch c.args.on.now ran.result)
    (sym c.if-means.false) ran.ensures.gone
