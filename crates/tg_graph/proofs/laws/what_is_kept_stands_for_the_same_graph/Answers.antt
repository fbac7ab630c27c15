use Rattle.std.proofs.Common.{refl}
use Rattle.tg_rows.specs.Content.{IsNamed}
use Rattle.tg_graph.proofs.StandingLaws.{StandsFor-kept, StandsFor-full_collection, names-full_collection, IsReachable-IsReached, IsReached-IsReachable}
use Rattle.tg_graph.proofs.laws.what_is_kept_stands_for_the_same_graph.Goals as goal

pub returns-clause-kept : goal.returns-clause-kept
returns-clause-kept c old new g stands = StandsFor-kept old new g stands (IsNamed new)

pub returns-clause-reached : goal.returns-clause-reached
returns-clause-reached c old g x stands = (IsReachable-IsReached old g stands g.subjects refl x, IsReached-IsReachable old g stands g.subjects refl x)

pub returns-clause-full : goal.returns-clause-full
returns-clause-full c old new g stands = StandsFor-full_collection old new g stands g.subjects refl

pub returns-clause-names : goal.returns-clause-names
returns-clause-names c old new g x stands keeps = names-full_collection old new g stands g.subjects refl keeps x
