use Rattle.tg_graph.proofs.StandingLaws.{IsSameContent-unchanged, StandsFor-unchanged}
use Rattle.tg_graph.proofs.laws.an_unchanged_heap_has_the_same_content.Goals as goal

pub returns-clause-same : goal.returns-clause-same
returns-clause-same c = IsSameContent-unchanged

pub returns-clause-stands : goal.returns-clause-stands
returns-clause-stands c = StandsFor-unchanged
