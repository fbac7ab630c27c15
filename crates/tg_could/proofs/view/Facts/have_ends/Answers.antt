use Rattle.std.proofs.lemmas.Bool.{false≢true}
use Rattle.std.proofs.lemmas.List.Elements.{AllWithin-more, at_read}
use Rattle.tg_model.specs.declared.edge.Edge.{Edge}
use Rattle.tg_could.specs.Reached.{JoinsMade}
use Rattle.tg_could.proofs.view.Facts.have_ends.Goals as goal

pub loop-edge-preserved : goal.loop-edge-preserved
loop-edge-preserved c =
    let P : Edge → Type 0 = JoinsMade c.args.self.now.made in
    AllWithin-more P c.args.edges.now 0 c.loop-edge.edge-index c.loop-edge.invariant
    (at_read c.args.edges.now P c.loop-edge.edge-index c.edge-item.result c.loop-edge-test.true c.edge-item.is (c.has_ends.ensures c.if-not-has_ends.false))

pub returns-then-not-has_ends : goal.returns-then-not-has_ends
returns-then-not-has_ends c t = absurd (false≢true t)
