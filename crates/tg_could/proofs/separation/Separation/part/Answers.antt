use Rattle.std.proofs.Common.{arith}
use Rattle.std.proofs.lemmas.List.Elements.{AllWithin-more, at_read}
use Rattle.tg_model.specs.declared.edge.Edge.{Edge}
use Rattle.tg_could.specs.Separation.{sides_of}
use Rattle.tg_could.proofs.MarkLaws.{Fits, Parts-edges}
use Rattle.tg_could.proofs.separation.Separation.part.Goals as goal

pub loop-edge-preserved : goal.loop-edge-preserved
loop-edge-preserved c =
    let P : Edge → Type 0 = Fits (sides_of c.args.self.now) c.args.question.x c.args.question.right c.args.question.y in
    AllWithin-more P c.args.edges.now 0 c.loop-edge.edge-index c.loop-edge.invariant
    (at_read c.args.edges.now P c.loop-edge.edge-index c.edge-item.result c.loop-edge-test.true c.edge-item.is (c.fits.ensures c.if-not-fits.false))

pub returns : goal.returns
returns c t =
    Parts-edges (sides_of c.args.self.now) c.args.question.x c.args.question.right c.args.question.y c.args.edges.now
    (λ k d inside. c.loop-edge.invariant k d (omega arith) (omega arith))
