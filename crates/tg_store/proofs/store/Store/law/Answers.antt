-- The law that a worker is told is that of the graph's value.
use Rattle.std.proofs.Common.{refl, subst, sym, ◌≡◌, ◌↔◌, ℕ, true}
use Rattle.std.specs.Prelude.{IsSome}
use Rattle.tg_graph.specs.Heap.{content_of}
use Rattle.tg_store.specs.Seeing.{has_value_right}
use Rattle.tg_store.proofs.SeeingLaws.{LawIs, law_to_nobody, law_to_subject}
use Rattle.tg_store.proofs.StandLaws.{active_seen, content_seen, subject_seen}
use Rattle.tg_store.proofs.Apart.{false_not_true}
use Rattle.tg_store.proofs.store.Store.law.Goals as goal

pub returns-in_err-subject : goal.returns-in_err-subject
returns-in_err-subject g c = λ graph stands.
    law_to_nobody (content_of c.self.inside.heap) graph (content_seen c.self.invariant c.self.view_is stands) c.args.name c.from_residual.result (subst (LawIs ((content_of c.self.inside.heap).value c.args.name)) (sym c.from_residual.ensures) tt)
    c.args.worker (λ subject. false_not_true (c.in_err-subject.ensures.active.1 (active_seen c.self.invariant c.self.view_is stands c.args.worker subject))) c.from_residual.ensures

pub returns : goal.returns
returns g c = λ graph stands.
    law_to_subject (content_of c.self.inside.heap) graph (content_seen c.self.invariant c.self.view_is stands) c.args.name c.law_between.result c.law_between.ensures.law
    c.args.worker (subject_seen c.self.invariant c.self.view_is stands c.args.worker (c.in_ok-subject.ensures.active.0 refl))
    (subst (λ (x : ℕ). IsSome c.law_between.result ↔ (has_value_right ((content_of c.self.inside.heap).label x c.args.name) ≡ true)) c.in_ok-subject.ensures.vertex.named c.law_between.ensures.exactly)
