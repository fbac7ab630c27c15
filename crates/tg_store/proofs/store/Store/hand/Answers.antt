-- What a hand does on the heap and enters is what it does on the graph.
use Rattle.std.proofs.Common.{◌∙◌, ℕ, refl, subst}
use Rattle.std.proofs.lemmas.Result.{err_from_is_err_and}
use Rattle.tg_model.specs.Graph.{IsSubject}
use Rattle.tg_graph.specs.Heap.{IsActive, nursery_of}
use Rattle.tg_rules.specs.Effect.{LacksCellsToServe}
use Rattle.tg_store.specs.Handing.{ComesOfHand, LacksCellsToHand, grant_of}
use Rattle.tg_store.specs.Store.{StoreState, graph_of_store}
use Rattle.tg_store.proofs.AnswerLaws.{subject_found}
use Rattle.tg_store.proofs.HandLaws.{IsStore-handed_on, allowed_here, comes}
use Rattle.tg_store.proofs.StandLaws.{IsStore-unchanged, active_seen, subject_here, subject_seen}
use Rattle.tg_store.proofs.Apart.{false_not_true, memory_not_asked, ok_not_err, refused_as}
use Rattle.tg_store.proofs.store.Store.hand.Goals as goal

pub returns-in_default-clause-no_such_worker : goal.returns-in_default-clause-no_such_worker
returns-in_default-clause-no_such_worker g c =
    let none : IsActive c.self.inside.heap c.args.hand.via → ⊥ = λ is. false_not_true (c.in_default.ensures.active.1 is) in
    λ graph stands. (λ _ subject. none (active_seen c.self.invariant c.self.view_is stands c.args.hand.via subject), λ _. refl)

pub returns-in_err-reserve_many-clause-no_such_worker : goal.returns-in_err-reserve_many-clause-no_such_worker
returns-in_err-reserve_many-clause-no_such_worker g c =
    let given = err_from_is_err_and c.from_residual.result c.from_residual.ensures.1 in
    λ graph stands.
    (λ same _. memory_not_asked given.1 given.2 same, λ none. absurd (none (subject_seen c.self.invariant c.self.view_is stands c.args.hand.via (c.in-Some.ensures.active.0 refl))))

pub invariant_of-self : goal.invariant_of-self
invariant_of-self g c =
    IsStore-unchanged _ _ c.self.inside.made c.self.invariant (record { opening = refl; entries = c.reserve_many.ensures.entries; handed = c.reserve_many.ensures.start; heap = record { table = refl; entries = refl; subjects = refl; remembered = refl; indexed = refl }; collections = refl })

pub hand_on-requires-clause-subject : goal.hand_on-requires-clause-subject
hand_on-requires-clause-subject g c = subject_found c.self.inside.heap c.args.hand.via c.in-Some.subject c.in-Some.ensures.there c.in-Some.ensures.nursery c.in-Some.ensures.vertex

pub hand_on-requires-clause-named : goal.hand_on-requires-clause-named
hand_on-requires-clause-named g c = c.in-Some.ensures.there.named

pub invariant_of-self-in_err-handed : goal.invariant_of-self-in_err-handed
invariant_of-self-in_err-handed g c =
    IsStore-unchanged _ _ c.self.inside.made c.self.invariant (record {
      opening = refl;
      entries = c.in_err-handed.ensures.entries ∙ c.reserve_many.ensures.entries;
      handed = c.hand_on.ensures.start ∙ c.reserve_many.ensures.start;
      heap = c.in_err-handed.ensures.kept.refused;
      collections = refl;
    })

pub returns-in_err-handed-clause-no_such_worker : goal.returns-in_err-handed-clause-no_such_worker
returns-in_err-handed-clause-no_such_worker g c =
    let given = err_from_is_err_and c.from_residual-in_err-handed.result c.from_residual-in_err-handed.ensures.1 in
    λ graph stands.
    (λ same _. c.in_err-handed.ensures.kept.worker (refused_as given.1 given.2 same), λ none. absurd (none (subject_seen c.self.invariant c.self.view_is stands c.args.hand.via (c.in-Some.ensures.active.0 refl))))

pub returns-in_err-handed-clause-full : goal.returns-in_err-handed-clause-full
returns-in_err-handed-clause-full g c =
    let old : StoreState = record { opening = c.self.inside.opening; entries = c.self.inside.journal.entries; handed = c.self.inside.journal.start; heap = c.self.inside.heap; collections = c.self.inside.collections } in
    let heap = c.self.inside.heap in
    let h = c.args.hand in
    let named = c.in-Some.ensures.there.named in
    let given = err_from_is_err_and c.from_residual-in_err-handed.result c.from_residual-in_err-handed.ensures.1 in
    λ same.
    let full = c.in_err-handed.ensures.full (refused_as given.1 given.2 same) in
    let subject : IsSubject (graph_of_store old) h.via = subject_here old c.self.invariant.faithful (graph_of_store old) h.via refl (c.in-Some.ensures.active.0 refl) in
    let lacks = subst (λ (x : ℕ). LacksCellsToServe heap.table (nursery_of heap h.via) x (grant_of h)) named
    (subst (λ (n : ℕ). LacksCellsToServe heap.table n c.in-Some.subject.name (grant_of h)) c.in-Some.ensures.nursery full.1) in
    subst (λ (s : StoreState). LacksCellsToHand h s) c.self.view_is (record { allowed = allowed_here old h c.self.invariant.faithful subject full.0; lacks = lacks })

pub invariant_of-self-2 : goal.invariant_of-self-2
invariant_of-self-2 g c =
    let old : StoreState = record { opening = c.self.inside.opening; entries = c.self.inside.journal.entries; handed = c.self.inside.journal.start; heap = c.self.inside.heap; collections = c.self.inside.collections } in
    let new : StoreState = record { opening = c.self.inside.opening; entries = c.hand_on.new.journal.entries; handed = c.hand_on.new.journal.start; heap = c.hand_on.new.heap; collections = c.self.inside.collections } in
    let h = c.args.hand in
    let subject : IsSubject (graph_of_store old) h.via = subject_here old c.self.invariant.faithful (graph_of_store old) h.via refl (c.in-Some.ensures.active.0 refl) in
    IsStore-handed_on old new c.self.inside.made c.self.invariant h subject refl (c.hand_on.ensures.start ∙ c.reserve_many.ensures.start) refl
    c.reserve_many.new.self c.hand_on.new.journal c.reserve_many.ensures.entries refl c.in_ok-handed.handed c.in_ok-handed.ensures.comes

pub returns-clause-comes : goal.returns-clause-comes
returns-clause-comes g c =
    let old : StoreState = record { opening = c.self.inside.opening; entries = c.self.inside.journal.entries; handed = c.self.inside.journal.start; heap = c.self.inside.heap; collections = c.self.inside.collections } in
    let new : StoreState = record { opening = c.self.inside.opening; entries = c.hand_on.new.journal.entries; handed = c.hand_on.new.journal.start; heap = c.hand_on.new.heap; collections = c.self.inside.collections } in
    let h = c.args.hand in
    let subject : IsSubject (graph_of_store old) h.via = subject_here old c.self.invariant.faithful (graph_of_store old) h.via refl (c.in-Some.ensures.active.0 refl) in
    subst (λ (s : StoreState). ComesOfHand h s new c.in_ok-handed.handed) c.self.view_is
    (comes old new c.self.inside.made c.self.invariant h subject refl (c.hand_on.ensures.start ∙ c.reserve_many.ensures.start) refl
    c.reserve_many.new.self c.hand_on.new.journal c.reserve_many.ensures.entries refl c.in_ok-handed.handed c.in_ok-handed.ensures.comes)

pub returns-clause-no_such_worker : goal.returns-clause-no_such_worker
returns-clause-no_such_worker g c = λ graph stands.
    (λ same _. ok_not_err same, λ none. absurd (none (subject_seen c.self.invariant c.self.view_is stands c.args.hand.via (c.in-Some.ensures.active.0 refl))))
