use Rattle.std.proofs.Common.{refl}
use Rattle.tg_store.proofs.AnswerLaws.{subject_found}
use Rattle.tg_store.proofs.parking.find_sides.Goals as goal

pub returns-clause-host : goal.returns-clause-host
returns-clause-host g c = subject_found c.args.heap.now c.args.parking.now.host c.in_ok-host.host c.in_ok-host.ensures.there c.in_ok-host.ensures.nursery c.in_ok-host.ensures.vertex

pub returns-clause-user : goal.returns-clause-user
returns-clause-user g c = subject_found c.args.heap.now c.args.parking.now.user c.in_ok-user.user c.in_ok-user.ensures.there c.in_ok-user.ensures.nursery c.in_ok-user.ensures.vertex

pub returns-clause-active : goal.returns-clause-active
returns-clause-active g c = ((λ _. (c.in_ok-host.ensures.active.0 refl, c.in_ok-user.ensures.active.0 refl)), (λ _. refl))
