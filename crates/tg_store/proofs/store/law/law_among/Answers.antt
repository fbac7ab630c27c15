-- A name that the walk doesn't meet is none of these vertices'.
use Rattle.tg_store.proofs.Apart.{false_not_true}
use Rattle.tg_store.proofs.SeeingLaws.{none_at_all, none_next}
use Rattle.tg_store.proofs.store.law.law_among.Goals as goal

pub loop-vertex-preserved : goal.loop-vertex-preserved
loop-vertex-preserved g c = none_next c.args.vertices.now c.args.name c.loop-vertex.vertex-index _ c.loop-vertex-test.true c.loop-vertex.invariant c.if-vertex-name.false

pub returns-clause-exactly : goal.returns-clause-exactly
returns-clause-exactly g c = (
  λ no. absurd (false_not_true no),
  λ has. absurd (none_at_all c.args.vertices.now c.args.name c.loop-vertex.vertex-index c.loop-vertex-test.false c.loop-vertex.invariant has),
)
