use Rattle.std.proofs.lemmas.Bool.{false≢true}
use Rattle.std.proofs.lemmas.List.Elements.{AllWithin-more, at_read}
use Rattle.tg_model.specs.declared.edge.Edge.{Edge}
use Rattle.tg_could.specs.View.{IsCounted}
use Rattle.tg_could.proofs.view.Facts.are_counted.Goals as goal

pub loop-edge-preserved : goal.loop-edge-preserved
loop-edge-preserved c =
    let P : Edge → Type 0 = IsCounted c.args.self.now c.args.question c.args.word in
    AllWithin-more P c.args.edges.now 0 c.loop-edge.edge-index c.loop-edge.invariant
    (at_read c.args.edges.now P c.loop-edge.edge-index c.edge-item.result c.loop-edge-test.true c.edge-item.is (c.is_counted.ensures c.if-not-is_counted.false))

pub returns-then-not-is_counted : goal.returns-then-not-is_counted
returns-then-not-is_counted c t = absurd (false≢true t)
