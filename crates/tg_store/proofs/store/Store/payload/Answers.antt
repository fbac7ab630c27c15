-- Who may read on the heap may read on the graph, and reads the same.
use Rattle.std.proofs.Common.{refl}
use Rattle.tg_graph.specs.Heap.{content_of}
use Rattle.tg_store.proofs.ReadLaws.{read-lent, read-permitted}
use Rattle.tg_store.proofs.StandLaws.{active_seen, content_seen, subject_seen}
use Rattle.tg_store.proofs.Apart.{false_not_true}
use Rattle.tg_store.proofs.store.Store.payload.Goals as goal

pub returns-in_default-clause-allowed : goal.returns-in_default-clause-allowed
returns-in_default-clause-allowed g c = λ graph stands.
    (λ some. absurd (false_not_true some), λ is. absurd (false_not_true (c.in_default.ensures.active.1 (active_seen c.self.invariant c.self.view_is stands c.args.worker is.0))))

pub returns-clause-allowed : goal.returns-clause-allowed
returns-clause-allowed g c = λ graph stands.
    let subject = subject_seen c.self.invariant c.self.view_is stands c.args.worker (c.in-Some.ensures.active.0 refl) in
    let served = read-permitted (content_of c.self.inside.heap) graph (content_seen c.self.invariant c.self.view_is stands) c.args.worker c.args.name subject in
    (λ some. (subject, served.0 (c.readable.ensures.allowed.0 some)), λ is. c.readable.ensures.allowed.1 (served.1 is.1))

pub returns-clause-stored : goal.returns-clause-stored
returns-clause-stored g c = λ graph stands.
    read-lent (content_of c.self.inside.heap) graph (content_seen c.self.invariant c.self.view_is stands) c.args.worker c.args.name (subject_seen c.self.invariant c.self.view_is stands c.args.worker (c.in-Some.ensures.active.0 refl)) c.readable.result
    (λ payload. g.P.Payload.value payload.now) c.readable.ensures.allowed.0 c.readable.ensures.stored
