use Rattle.tgcould.specs.Supposed.{WritesEdge}
use Rattle.tgcould.proofs.SupposedLaws.{zip_more, zip_whole}
use Rattle.tgcould.proofs.supposed.read_edges.Goals as goal

pub loop-text-preserved : goal.loop-text-preserved
loop-text-preserved g c =
    zip_more (λ text edge. WritesEdge text.now edge) c.args.texts.now c.loop-text.edges.items c.push.new.self.items c.loop-text.text-index _ c.in-Ok-Ok.edge c.loop-text-test.true
    c.in_ok-push-in-Ok-Ok.ensures.items c.loop-text.invariant (rw c.in-Ok-Ok.field-0-is at c.in-Ok-Ok.ensures)

pub returns : goal.returns
returns g c =
    zip_whole (λ text edge. WritesEdge text.now edge) c.args.texts.now c.loop-text.edges.items c.loop-text.text-index c.loop-text-test.false c.loop-text.invariant
