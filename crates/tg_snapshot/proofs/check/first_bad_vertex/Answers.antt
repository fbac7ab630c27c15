use Rattle.std.proofs.Common.{below_more, refl}
use Rattle.tg_snapshot.proofs.check.first_bad_vertex.Goals as goal

pub loop-at-preserved : goal.loop-at-preserved
loop-at-preserved c = below_more _ _ c.loop-at.invariant (c.if-not-is_vertex_line.ensures.0 refl)
