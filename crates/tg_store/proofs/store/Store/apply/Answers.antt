-- What is decided and changed on the heap is the graph's, and exactly that is entered.
use Rattle.std.proofs.Common.{◌≡◌, ℕ, ◌∙◌, ◌++◌, ◌∷◌, [], List, None, ap, refl, sym, subst}
use Rattle.std.proofs.lemmas.Result.{err_from_is_err_and}
use Rattle.tg_model.specs.declared.command.Command.{Command}
use Rattle.tg_model.specs.declared.command.Deed.TheVariants.{Plain}
use Rattle.tg_model.specs.declared.reply.Reply.{Reply}
use Rattle.tg_model.specs.declared.reply.Reply.TheVariants.{Denied}
use Rattle.tg_model.specs.Graph.{ProtectionGraph}
use Rattle.tg_model.specs.Rules.{denial_of}
use Rattle.tg_journal.specs.declared.entry.Entry.{Entry}
use Rattle.tg_subjects.specs.declared.subject.Subject.{Subject}
use Rattle.tg_graph.specs.Heap.{IsActive, content_of, nursery_of}
use Rattle.tg_rules.specs.Effect.{LacksCellsToServe}
use Rattle.tg_store.specs.Inner.Answering.{IsReplied, entry_answered}
use Rattle.tg_store.specs.Store.{StoreState, Enters, graph_of_store}
use Rattle.tg_store.proofs.AnswerLaws.{made-plain, permitted, subject_found}
use Rattle.tg_store.proofs.StandLaws.{IsStore-entered, IsStore-unchanged, StandsFor-entered, active_seen, content_seen, stands_inside, subject_here, subject_seen}
use Rattle.tg_store.proofs.Apart.{false_not_true, memory_not_asked, ok_not_err, ok_same, refused_as}
use Rattle.tg_store.proofs.store.Store.apply.Goals as goal

-- what is entered of a command, under the worker's name
entered_by : (before ready after : List Entry) (asker : Subject) (worker : ℕ) (command : Command) (reply told : Reply) → asker.name ≡ worker → reply ≡ told → ready ≡ before
    → after ≡ ready ++ entry_answered asker command reply ∷ [] → after ≡ before ++ (record { worker = worker; deed = Plain command; reply = told }) ∷ []
entered_by before ready after asker worker command reply told named is same put =
    put ∙ (λ i. same i ++ (record { worker = named i; deed = Plain command; reply = is i }) ∷ [])

pub returns-in_default-clause-no_such_worker : goal.returns-in_default-clause-no_such_worker
returns-in_default-clause-no_such_worker g c =
    let none : IsActive c.self.inside.heap c.args.worker → ⊥ = λ is. false_not_true (c.in_default.ensures.active.1 is) in
    λ graph stands. (λ _ subject. none (active_seen c.self.invariant c.self.view_is stands c.args.worker subject), λ _. refl)

pub returns-in_err-reserve-clause-no_such_worker : goal.returns-in_err-reserve-clause-no_such_worker
returns-in_err-reserve-clause-no_such_worker g c =
    let given = err_from_is_err_and c.from_residual.result c.from_residual.ensures.1 in
    λ graph stands.
    (λ same _. memory_not_asked given.1 given.2 same, λ none. absurd (none (subject_seen c.self.invariant c.self.view_is stands c.args.worker (c.in-Some.ensures.active.0 refl))))

pub invariant_of-self : goal.invariant_of-self
invariant_of-self g c =
    IsStore-unchanged _ _ c.self.inside.made c.self.invariant (record { opening = refl; entries = c.reserve.ensures.entries; handed = c.reserve.ensures.start; heap = record { table = refl; entries = refl; subjects = refl; remembered = refl; indexed = refl }; collections = refl })

pub answer_command-requires-clause-subject : goal.answer_command-requires-clause-subject
answer_command-requires-clause-subject g c = subject_found c.self.inside.heap c.args.worker c.in-Some.subject c.in-Some.ensures.there c.in-Some.ensures.nursery c.in-Some.ensures.vertex

pub invariant_of-self-in_err-reply : goal.invariant_of-self-in_err-reply
invariant_of-self-in_err-reply g c =
    IsStore-unchanged _ _ c.self.inside.made c.self.invariant (record {
      opening = refl;
      entries = c.in_err-reply.ensures.entered.refused ∙ c.reserve.ensures.entries;
      handed = c.answer_command.ensures.entered.start ∙ c.reserve.ensures.start;
      heap = c.in_err-reply.ensures.answered.kept.refused;
      collections = refl;
    })

pub returns-in_err-reply-clause-no_such_worker : goal.returns-in_err-reply-clause-no_such_worker
returns-in_err-reply-clause-no_such_worker g c =
    let given = err_from_is_err_and c.from_residual-in_err-reply.result c.from_residual-in_err-reply.ensures.1 in
    λ graph stands.
    (λ same _. c.in_err-reply.ensures.answered.kept.worker (refused_as given.1 given.2 same), λ none. absurd (none (subject_seen c.self.invariant c.self.view_is stands c.args.worker (c.in-Some.ensures.active.0 refl))))

pub returns-in_err-reply-clause-full : goal.returns-in_err-reply-clause-full
returns-in_err-reply-clause-full g c =
    let heap = c.self.inside.heap in
    let named = c.in-Some.ensures.there.named in
    let given = err_from_is_err_and c.from_residual-in_err-reply.result c.from_residual-in_err-reply.ensures.1 in
    λ graph stands same.
    let full = c.in_err-reply.ensures.full (refused_as given.1 given.2 same) in
    let none = subst (λ (x : ℕ). denial_of (content_of heap).label (content_of heap).value x c.args.command ≡ None) named full.0 in
    let lacks = subst (λ (x : ℕ). LacksCellsToServe heap.table (nursery_of heap c.args.worker) x c.args.command) named
    (subst (λ (n : ℕ). LacksCellsToServe heap.table n c.in-Some.subject.name c.args.command) c.in-Some.ensures.nursery full.2) in (
      permitted (content_of heap) graph (content_seen c.self.invariant c.self.view_is stands) c.args.worker c.args.command (subject_seen c.self.invariant c.self.view_is stands c.args.worker (c.in-Some.ensures.active.0 refl)) none,
      full.1,
      subst (λ (s : StoreState). LacksCellsToServe s.heap.table (nursery_of s.heap c.args.worker) c.args.worker c.args.command) c.self.view_is lacks,
    )

pub invariant_of-self-2 : goal.invariant_of-self-2
invariant_of-self-2 g c =
    let graph : ProtectionGraph = graph_of_store (record { opening = c.self.inside.opening; entries = c.self.inside.journal.entries; handed = c.self.inside.journal.start; heap = c.self.inside.heap; collections = c.self.inside.collections }) in
    let faithful = c.self.invariant.faithful in
    let subject = subject_here _ faithful graph c.args.worker refl (c.in-Some.ensures.active.0 refl) in
    let replied = subst (λ (x : ℕ). IsReplied x c.args.command c.self.inside.heap c.answer_command.new.heap c.in_ok-reply.reply) c.in-Some.ensures.there.named c.in_ok-reply.ensures.answered.replied in
    IsStore-entered _ _ c.args.worker (Plain c.args.command) c.in_ok-reply.reply refl (entered_by _ _ _ c.in-Some.subject c.args.worker c.args.command _ _ c.in-Some.ensures.there.named refl c.reserve.ensures.entries c.in_ok-reply.ensures.entered.entry)
    c.self.inside.made faithful subject tt (replied.answered graph faithful.stands subject) (replied.step graph faithful.stands subject) (replied.subjects graph faithful.stands subject faithful.subjects)
    (c.self.invariant.is_made ∙ sym (made-plain graph c.args.worker c.args.command))

pub returns-clause-reply : goal.returns-clause-reply
returns-clause-reply g c = λ graph stands.
    let replied = subst (λ (x : ℕ). IsReplied x c.args.command c.self.inside.heap c.answer_command.new.heap c.in_ok-reply.reply) c.in-Some.ensures.there.named c.in_ok-reply.ensures.answered.replied in
    replied.answered graph (content_seen c.self.invariant c.self.view_is stands) (subject_seen c.self.invariant c.self.view_is stands c.args.worker (c.in-Some.ensures.active.0 refl))

pub returns-clause-step : goal.returns-clause-step
returns-clause-step g c = λ graph stands.
    let old : StoreState = record { opening = c.self.inside.opening; entries = c.self.inside.journal.entries; handed = c.self.inside.journal.start; heap = c.self.inside.heap; collections = c.self.inside.collections } in
    let new : StoreState = record { opening = c.self.inside.opening; entries = c.answer_command.new.journal.entries; handed = c.answer_command.new.journal.start; heap = c.answer_command.new.heap; collections = c.self.inside.collections } in
    let entry : Enters old new c.args.worker (Plain c.args.command) c.in_ok-reply.reply = entered_by _ _ _ c.in-Some.subject c.args.worker c.args.command _ _ c.in-Some.ensures.there.named refl c.reserve.ensures.entries c.in_ok-reply.ensures.entered.entry in
    StandsFor-entered old new c.args.worker (Plain c.args.command) c.in_ok-reply.reply refl entry graph (stands_inside c.self.invariant c.self.view_is stands)

pub returns-clause-denied : goal.returns-clause-denied
returns-clause-denied g c = λ denial same.
    let is : c.in_ok-reply.reply ≡ Denied denial = ok_same same in
    record {
      entry = entered_by _ _ _ c.in-Some.subject c.args.worker c.args.command _ _ c.in-Some.ensures.there.named is (c.reserve.ensures.entries ∙ ap (λ (s : StoreState). s.entries) c.self.view_is) c.in_ok-reply.ensures.entered.entry;
      opening = ap (λ (s : StoreState). s.opening) c.self.view_is;
      handed = c.answer_command.ensures.entered.start ∙ c.reserve.ensures.start ∙ ap (λ (s : StoreState). s.handed) c.self.view_is;
      heap = c.in_ok-reply.ensures.denied denial same ∙ ap (λ (s : StoreState). s.heap) c.self.view_is;
      collections = ap (λ (s : StoreState). s.collections) c.self.view_is;
    }

pub returns-clause-no_such_worker : goal.returns-clause-no_such_worker
returns-clause-no_such_worker g c = λ graph stands.
    (λ same _. ok_not_err same, λ none. absurd (none (subject_seen c.self.invariant c.self.view_is stands c.args.worker (c.in-Some.ensures.active.0 refl))))
