use Rattle.std.proofs.Common.{refl}
use Rattle.tg_graph.proofs.StandingLaws.{StandsFor-collected}
use Rattle.tg_graph.proofs.laws.a_collected_heap_stands_for_the_same_graph.Goals as goal

pub returns : goal.returns
returns c kind old new g stands = StandsFor-collected kind old new g g.subjects stands refl
