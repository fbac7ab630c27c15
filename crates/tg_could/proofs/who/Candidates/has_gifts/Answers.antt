use Rattle.std.proofs.lemmas.List.Elements.{AllWithin-more, at_read}
use Rattle.tg_model.specs.declared.edge.Edge.{Edge}
use Rattle.tg_could.specs.Separation.{sides_of}
use Rattle.tg_could.specs.Told.{TellsOf}
use Rattle.tg_could.proofs.who.Candidates.has_gifts.Goals as goal

pub loop-edge-preserved : goal.loop-edge-preserved
loop-edge-preserved c =
    let P : Edge → Type 0 = TellsOf (sides_of c.args.sides.now) c.args.self.now c.args.right c.args.y in
    AllWithin-more P c.args.edges.now 0 c.loop-edge.edge-index c.loop-edge.invariant
    (at_read c.args.edges.now P c.loop-edge.edge-index c.edge-item.result c.loop-edge-test.true c.edge-item.is (c.has_gift.ensures c.if-not-has_gift.false))
