-- The new vertex is the graph's next, and exactly what is answered is entered.
use Rattle.std.proofs.Common.{ℕ, ◌≡◌, ◌<◌, ◌≤◌, ◌∙◌, ◌++◌, ◌∷◌, [], None, Some, length, refl, sym, ap, subst, inr, arith}
use Rattle.std.proofs.lemmas.Result.{err_from_is_err_and}
use Rattle.tg_model.specs.declared.value.Value.{Value}
use Rattle.tg_model.specs.declared.command.Deed.{Deed}
use Rattle.tg_model.specs.declared.reply.Reply.{Reply}
use Rattle.tg_model.specs.declared.reply.Reply.TheVariants.{Name, VerticesFull, WorkersFull}
use Rattle.tg_model.specs.Graph.{ProtectionGraph}
use Rattle.tg_model.specs.declared.opening.TheConstants.{MAX_WORKERS}
use Rattle.tg_model.specs.Rules.{IsAllowed, answer_of}
use Rattle.tg_store.specs.Origin.{start_at}
use Rattle.tg_journal.specs.History.{graph_after}
use Rattle.tg_word.specs.Word.{nursery_space}
use Rattle.tg_space.specs.SpaceTable.{SpaceTable}
use Rattle.tg_graph.specs.Heap.{IsActive, content_of, nursery_of}
use Rattle.tg_rows.specs.Spots.{IsMadeInRow, LacksCellsFor}
use Rattle.tg_store.specs.Store.{StoreState, Enters, OnlyEnters, graph_of_store}
use Rattle.tg_store.specs.declared.making.Limit.{Limit}
use Rattle.tg_model.specs.declared.making.Making.{Making}
use Rattle.tg_model.specs.Making.{deed_making}
use Rattle.tg_store.specs.Making.{IsLimitMet, reply_at}
use Rattle.tg_store.proofs.MakingLaws as making
use Rattle.tg_store.proofs.StandLaws.{IsStore-unchanged, StandsFor-entered, active_seen, limit_of, stands_inside, subject_seen}
use Rattle.tg_store.proofs.Apart.{false_not_true, memory_not_heap, memory_not_vertices, memory_not_worker, worker_not_heap, worker_not_vertices}
use Rattle.tg_store.proofs.store.Store.make.Goals as goal
use Rattle.tg_store.proofs.store.Store.make.Goals.{After-push_refusal, In_default-met}

-- a limit is met, and the reply that tells it is entered
record IsLimited (old new : StoreState) (worker : ℕ) (kind : Making) (deed : Deed) (limit : Limit) : Type 0 where
  met : IsLimitMet (graph_of_store old) kind (Some limit)
  entry : Enters old new worker deed (reply_at limit)

is_limited : (g : _) (c : After-push_refusal g) → IsLimited (record { opening = c.self.inside.opening; entries = c.self.inside.journal.entries; handed = c.self.inside.journal.start; heap = c.self.inside.heap; collections = c.self.inside.collections }) (record { opening = c.self.inside.opening; entries = c.push_refusal.new.self.entries; handed = c.push_refusal.new.self.start; heap = c.self.inside.heap; collections = c.self.inside.collections })
    c.args.worker c.args.kind (deed_making c.args.kind c.args.label c.args.draft) c.in-Some-met.limit
is_limited g c =
    let entries = c.self.inside.journal.entries in
    let deed : c.in-Ok.deed ≡ deed_making c.args.kind c.args.label c.args.draft = c.in-Ok.ensures.deed ∙ ap (λ (v : Value). deed_making c.args.kind c.args.label v) c.value.ensures.same in
    record {
      met = subst (λ (s : StoreState). IsLimitMet (graph_of_store s) c.args.kind (Some c.in-Some-met.limit)) (sym c.self.view_is) c.in-Some-met.ensures;
      entry = c.push_refusal.ensures.entries ∙ ap (λ es. es ++ (record { worker = c.args.worker; deed = c.in-Ok.deed; reply = c.reply.result }) ∷ []) c.deed_to_enter.ensures.room.entries
          ∙ ap (λ (r : Reply). entries ++ (record { worker = c.args.worker; deed = c.in-Ok.deed; reply = r }) ∷ []) c.reply.ensures
          ∙ ap (λ (d : Deed). entries ++ (record { worker = c.args.worker; deed = d; reply = reply_at c.in-Some-met.limit }) ∷ []) deed;
    }

-- and nothing else is done
only_enters : (g : _) (c : After-push_refusal g) (reply : Reply) → reply_at c.in-Some-met.limit ≡ reply
    → OnlyEnters c.args.self.now (record { opening = c.self.inside.opening; entries = c.push_refusal.new.self.entries; handed = c.push_refusal.new.self.start; heap = c.self.inside.heap; collections = c.self.inside.collections }) c.args.worker (deed_making c.args.kind c.args.label c.args.draft) reply
only_enters g c reply is =
    let new : StoreState = record { opening = c.self.inside.opening; entries = c.push_refusal.new.self.entries; handed = c.push_refusal.new.self.start; heap = c.self.inside.heap; collections = c.self.inside.collections } in
    let deed : Deed = deed_making c.args.kind c.args.label c.args.draft in
    subst (λ (s : StoreState). OnlyEnters s new c.args.worker deed reply) c.self.view_is
    (record { entry = (is_limited g c).entry ∙ ap (λ (r : Reply). c.self.inside.journal.entries ++ (record { worker = c.args.worker; deed = deed; reply = r }) ∷ []) is; opening = refl; handed = c.push_refusal.ensures.start ∙ c.deed_to_enter.ensures.room.start; heap = refl; collections = refl })

-- no limit is met
has_room : (g : _) (c : In_default-met g) → IsLimitMet (graph_of_store (record { opening = c.self.inside.opening; entries = c.self.inside.journal.entries; handed = c.self.inside.journal.start; heap = c.self.inside.heap; collections = c.self.inside.collections })) c.args.kind None
has_room g c = subst (λ (s : StoreState). IsLimitMet (graph_of_store s) c.args.kind None) (sym c.self.view_is) c.in_default-met.ensures

pub returns-in_default-clause-refusals : goal.returns-in_default-clause-refusals
returns-in_default-clause-refusals g c =
    let none : IsActive c.self.inside.heap c.args.worker → ⊥ = λ is. false_not_true (c.in_default.ensures.active.1 is) in
    record {
      no_such_worker = (λ graph stands. (λ _ subject. none (active_seen c.self.invariant c.self.view_is stands c.args.worker subject), λ _. refl));
      no_more = λ _ _ e. absurd (worker_not_vertices e);
      exhausted = (λ graph stands subject _. absurd (none (active_seen c.self.invariant c.self.view_is stands c.args.worker subject)));
      full = λ _ _ e. absurd (worker_not_heap e);
      same_graph = (λ _ stands. stands);
      handed_back = refl;
      opening = refl;
      handed = refl;
      limits = refl;
      collections = refl;
    }

pub invariant_of-self : goal.invariant_of-self
invariant_of-self g c =
    IsStore-unchanged _ _ c.self.inside.made c.self.invariant (record { opening = refl; entries = c.deed_to_enter.ensures.room.entries; handed = c.deed_to_enter.ensures.room.start; heap = record { table = refl; entries = refl; subjects = refl; remembered = refl; indexed = refl }; collections = refl })

pub add_vertex-requires-clause-worker : goal.add_vertex-requires-clause-worker
add_vertex-requires-clause-worker g c = c.in-Some.ensures.active.0 refl

pub invariant_of-self-in-Some-met : goal.invariant_of-self-in-Some-met
invariant_of-self-in-Some-met g c =
    let limited = is_limited g (goal.at.invariant_of-self-in-Some-met g c).After-push_refusal in
    making.IsStore-limited _ c.self.inside.made c.self.invariant c.args.worker (c.in-Some.ensures.active.0 refl) c.args.kind c.args.label c.args.draft c.in-Some-met.limit limited.met _ c.value.ensures.fits refl limited.entry refl

pub returns-in-Some-met-clause-refusals : goal.returns-in-Some-met-clause-refusals
returns-in-Some-met-clause-refusals g c =
    let new : StoreState = record { opening = c.self.inside.opening; entries = c.push_refusal.new.self.entries; handed = c.push_refusal.new.self.start; heap = c.self.inside.heap; collections = c.self.inside.collections } in
    let limited = is_limited g (goal.at.returns-in-Some-met-clause-refusals g c).After-push_refusal in
    let told = making.limit_told (graph_of_store c.args.self.now) c.args.kind c.in-Some-met.limit c.in-Some-met.ensures in
    record {
      no_such_worker = (λ graph stands.
          rw c.fault.ensures
          (λ e _. told.worker e, λ none. absurd (none (subject_seen c.self.invariant c.self.view_is stands c.args.worker (c.in-Some.ensures.active.0 refl)))));
      no_more = (λ graph stands.
          rw c.fault.ensures
          (λ e. (subject_seen c.self.invariant c.self.view_is stands c.args.worker (c.in-Some.ensures.active.0 refl), subst (λ (h : ProtectionGraph). h.limit ≤ h.made) stands (told.vertices e).0)));
      exhausted = (λ graph stands subject all. rw c.fault.ensures (told.exhausted (subst (λ (h : ProtectionGraph). h.limit ≤ h.made) (sym stands) all)));
      full = (λ _ _. rw c.fault.ensures (λ e. absurd (told.room e)));
      same_graph = (λ graph stands.
          making.StandsFor-limited _ c.self.inside.made c.self.invariant c.args.worker (c.in-Some.ensures.active.0 refl) c.args.kind c.args.label c.args.draft c.in-Some-met.limit limited.met new graph refl limited.entry (stands_inside c.self.invariant c.self.view_is stands));
      handed_back = refl;
      opening = ap (λ (s : StoreState). s.opening) c.self.view_is;
      handed = c.push_refusal.ensures.start ∙ c.deed_to_enter.ensures.room.start ∙ ap (λ (s : StoreState). s.handed) c.self.view_is;
      limits = ap (λ (s : StoreState). s.heap.table.limits) c.self.view_is;
      collections = ap (λ (s : StoreState). s.collections) c.self.view_is;
    }

pub add_vertex-requires-clause-fresh : goal.add_vertex-requires-clause-fresh
add_vertex-requires-clause-fresh g c = making.fresh _ c.self.inside.made c.self.invariant c.args.worker (c.in-Some.ensures.active.0 refl) c.args.kind c.args.label c.args.draft

pub invariant_of-self-in_err-add_vertex : goal.invariant_of-self-in_err-add_vertex
invariant_of-self-in_err-add_vertex g c =
    IsStore-unchanged _ _ c.self.inside.made c.self.invariant (record { opening = refl; entries = c.deed_to_enter.ensures.room.entries; handed = c.deed_to_enter.ensures.room.start; heap = c.in_err-add_vertex.ensures.refused; collections = refl })

pub returns-in_err-add_vertex-clause-refusals : goal.returns-in_err-add_vertex-clause-refusals
returns-in_err-add_vertex-clause-refusals g c =
    let given = err_from_is_err_and c.from_residual.result c.from_residual.ensures.1 in
    let room = c.in_default-met.ensures in
    record {
      no_such_worker = (λ graph stands.
          rw (given.1, given.2)
          (λ e _. (making.fault_told _).0 e, λ none. absurd (none (subject_seen c.self.invariant c.self.view_is stands c.args.worker (c.in-Some.ensures.active.0 refl)))));
      no_more = (λ _ _. rw (given.1, given.2) (λ e. absurd ((making.fault_told _).1 e)));
      exhausted = (λ graph stands subject all.
          let low = subst (λ (h : ProtectionGraph). h.made < h.limit) stands room.0 in absurd (omega (arith, low, all)));
      full = (λ graph stands.
          rw (given.1, given.2)
          (λ e. (
            subst (λ (h : ProtectionGraph). IsAllowed h c.args.worker (deed_making c.args.kind c.args.label c.args.draft)) stands (making.is_allowed (graph_of_store c.args.self.now) c.args.worker c.args.label c.args.draft c.args.kind room),
            subst (λ (h : ProtectionGraph). LacksCellsFor c.args.self.now.heap.table (nursery_space (nursery_of c.args.self.now.heap c.args.worker)) 1 c.args.worker h.made) (stands_inside c.self.invariant c.self.view_is stands)
                (subst (λ n. LacksCellsFor c.args.self.now.heap.table (nursery_space (nursery_of c.args.self.now.heap c.args.worker)) 1 c.args.worker n) c.self.invariant.is_made
                (subst (λ (s : StoreState). LacksCellsFor s.heap.table (nursery_space (nursery_of s.heap c.args.worker)) 1 c.args.worker c.self.inside.made) c.self.view_is (c.in_err-add_vertex.ensures.full ((making.fault_told _).3 e)))),
          )));
      same_graph = (λ graph stands. rw given.1 (ap (λ es. graph_after (start_at c.self.inside.opening) es) c.deed_to_enter.ensures.room.entries ∙ stands_inside c.self.invariant c.self.view_is stands));
      handed_back = rw (given.1, given.2) c.in_err-add_vertex.ensures.handed_back;
      opening = ap (λ (s : StoreState). s.opening) c.self.view_is;
      handed = c.deed_to_enter.ensures.room.start ∙ ap (λ (s : StoreState). s.handed) c.self.view_is;
      limits = ap (λ (t : SpaceTable). t.limits) c.in_err-add_vertex.ensures.refused.table ∙ ap (λ (s : StoreState). s.heap.table.limits) c.self.view_is;
      collections = ap (λ (s : StoreState). s.collections) c.self.view_is;
    }

pub invariant_of-self-2 : goal.invariant_of-self-2
invariant_of-self-2 g c =
    let entry = making.enters c.self.inside.journal.entries _ c.push.new.self.entries c.args.worker c.args.kind c.args.label c.args.draft _ _ (Name c.self.inside.made) c.in-Ok.ensures.deed c.value.ensures.same c.deed_to_enter.ensures.room.entries c.push.ensures.entries in
    making.IsStore-made _ c.self.inside.made c.self.invariant c.args.worker (c.in-Some.ensures.active.0 refl) c.args.kind c.args.label c.args.draft (has_room g (goal.at.invariant_of-self-2 g c).In_default-met) _ c.value.ensures.fits refl entry
    c.in_ok-add_vertex.ensures.made c.in_ok-add_vertex.ensures.subjects

pub returns-clause-entry : goal.returns-clause-entry
returns-clause-entry g c =
    making.enters c.args.self.now.entries _ c.push.new.self.entries c.args.worker c.args.kind c.args.label c.args.draft _ _ (Name c.self.inside.made) c.in-Ok.ensures.deed c.value.ensures.same
    (c.deed_to_enter.ensures.room.entries ∙ ap (λ (s : StoreState). s.entries) c.self.view_is) c.push.ensures.entries

pub returns-clause-made : goal.returns-clause-made
returns-clause-made g c =
    let old : StoreState = record { opening = c.self.inside.opening; entries = c.self.inside.journal.entries; handed = c.self.inside.journal.start; heap = c.self.inside.heap; collections = c.self.inside.collections } in
    let new : StoreState = record { opening = c.self.inside.opening; entries = c.push.new.self.entries; handed = c.push.new.self.start; heap = c.add_vertex.new.heap; collections = c.self.inside.collections } in
    let entry = making.enters c.self.inside.journal.entries _ c.push.new.self.entries c.args.worker c.args.kind c.args.label c.args.draft _ _ (Name c.self.inside.made) c.in-Ok.ensures.deed c.value.ensures.same c.deed_to_enter.ensures.room.entries c.push.ensures.entries in
    record {
      name = (λ graph stands.
          ap (λ h. answer_of h c.args.worker (deed_making c.args.kind c.args.label c.args.draft)) (sym (stands_inside c.self.invariant c.self.view_is stands))
          ∙ making.answer-name _ c.self.inside.made c.self.invariant c.args.worker (c.in-Some.ensures.active.0 refl) c.args.kind c.args.label c.args.draft (has_room g (goal.at.returns-clause-made g c).In_default-met));
      step = (λ graph stands.
          StandsFor-entered old new c.args.worker (deed_making c.args.kind c.args.label c.args.draft) (Name c.self.inside.made) refl entry graph (stands_inside c.self.invariant c.self.view_is stands));
      stored = making.stored (content_of c.self.inside.heap) (content_of c.add_vertex.new.heap) c.args.worker c.self.inside.made c.args.label c.args.draft c.in_ok-add_vertex.ensures.made;
      placed = subst (λ (s : StoreState). IsMadeInRow s.heap.table c.add_vertex.new.heap.table s.heap.remembered c.add_vertex.new.heap.remembered (nursery_space (nursery_of s.heap c.args.worker)) c.args.worker c.self.inside.made c.args.label) c.self.view_is c.in_ok-add_vertex.ensures.placed;
    }

pub returns-clause-refusals : goal.returns-clause-refusals
returns-clause-refusals g c =
    record {
      no_such_worker = (λ graph stands. (λ e. absurd e, λ none. absurd (none (subject_seen c.self.invariant c.self.view_is stands c.args.worker (c.in-Some.ensures.active.0 refl)))));
      no_more = λ _ _. tt;
      exhausted = (λ graph stands subject all.
          let low = subst (λ (h : ProtectionGraph). h.made < h.limit) stands c.in_default-met.ensures.0 in absurd (omega (arith, low, all)));
      full = λ _ _. tt;
      same_graph = λ _ _. tt;
      handed_back = tt;
      opening = ap (λ (s : StoreState). s.opening) c.self.view_is;
      handed = c.push.ensures.start ∙ c.deed_to_enter.ensures.room.start ∙ ap (λ (s : StoreState). s.handed) c.self.view_is;
      limits = c.in_ok-add_vertex.ensures.limits ∙ ap (λ (s : StoreState). s.heap.table.limits) c.self.view_is;
      collections = ap (λ (s : StoreState). s.collections) c.self.view_is;
    }

pub returns-in-Some-met-clause-refused : goal.returns-in-Some-met-clause-refused
returns-in-Some-met-clause-refused g c =
    rw c.fault.ensures (λ first second. absurd ((making.limit_told (graph_of_store c.args.self.now) c.args.kind c.in-Some-met.limit c.in-Some-met.ensures).only first second))

pub returns-in_default-deed_to_enter-clause-refusals : goal.returns-in_default-deed_to_enter-clause-refusals
returns-in_default-deed_to_enter-clause-refusals g c =
    record {
      no_such_worker = (λ graph stands.
          (λ e _. memory_not_worker e, λ none. absurd (none (subject_seen c.self.invariant c.self.view_is stands c.args.worker (c.in-Some.ensures.active.0 refl)))));
      no_more = λ _ _ e. absurd (memory_not_vertices e);
      exhausted = (λ graph stands subject _. (inr refl));
      full = λ _ _ e. absurd (memory_not_heap e);
      same_graph = (λ graph stands. (ap (λ es. graph_after (start_at c.self.inside.opening) es) c.deed_to_enter.ensures.room.entries ∙ stands_inside c.self.invariant c.self.view_is stands));
      handed_back = refl;
      opening = ap (λ (s : StoreState). s.opening) c.self.view_is;
      handed = c.deed_to_enter.ensures.room.start ∙ ap (λ (s : StoreState). s.handed) c.self.view_is;
      limits = ap (λ (s : StoreState). s.heap.table.limits) c.self.view_is;
      collections = ap (λ (s : StoreState). s.collections) c.self.view_is;
    }

pub returns-in-Some-met-clause-no_more_entry : goal.returns-in-Some-met-clause-no_more_entry
returns-in-Some-met-clause-no_more_entry g c =
    rw c.fault.ensures (λ e. only_enters g (goal.at.returns-in-Some-met-clause-no_more_entry g c).After-push_refusal VerticesFull ((making.limit_told (graph_of_store c.args.self.now) c.args.kind c.in-Some-met.limit c.in-Some-met.ensures).vertices e).1)

pub returns-in-Some-met-clause-too_many_entry : goal.returns-in-Some-met-clause-too_many_entry
returns-in-Some-met-clause-too_many_entry g c =
    rw c.fault.ensures (λ e. only_enters g (goal.at.returns-in-Some-met-clause-too_many_entry g c).After-push_refusal WorkersFull ((making.limit_told (graph_of_store c.args.self.now) c.args.kind c.in-Some-met.limit c.in-Some-met.ensures).subjects e).1)

pub returns-in-Some-met-clause-too_many : goal.returns-in-Some-met-clause-too_many
returns-in-Some-met-clause-too_many g c =
    λ graph stands.
    rw c.fault.ensures
    (λ e. let full = ((making.limit_told (graph_of_store c.args.self.now) c.args.kind c.in-Some-met.limit c.in-Some-met.ensures).subjects e).0 in
    (full.0, subject_seen c.self.invariant c.self.view_is stands c.args.worker (c.in-Some.ensures.active.0 refl), subst (λ (h : ProtectionGraph). h.made < h.limit) stands full.1, subst (λ (h : ProtectionGraph). MAX_WORKERS ≤ length h.subjects) stands full.2))

pub returns-in-Some-met-clause-crowded : goal.returns-in-Some-met-clause-crowded
returns-in-Some-met-clause-crowded g c =
    λ is graph stands subject low many.
    rw c.fault.ensures ((making.limit_told (graph_of_store c.args.self.now) c.args.kind c.in-Some-met.limit c.in-Some-met.ensures).crowded (subst (λ (h : ProtectionGraph). h.made < h.limit) (sym stands) low))

pub returns-in_err-add_vertex-clause-crowded : goal.returns-in_err-add_vertex-clause-crowded
returns-in_err-add_vertex-clause-crowded g c =
    λ is graph stands subject low many.
    let few = subst (λ (h : ProtectionGraph). length h.subjects < MAX_WORKERS) stands (c.in_default-met.ensures.1 is) in absurd (omega (arith, few, many))

pub returns-in_err-add_vertex-clause-too_many : goal.returns-in_err-add_vertex-clause-too_many
returns-in_err-add_vertex-clause-too_many g c =
    let given = err_from_is_err_and c.from_residual.result c.from_residual.ensures.1 in
    λ _ _. rw (given.1, given.2) (λ e. absurd ((making.fault_told _).2 e))

pub returns-in_err-add_vertex-clause-too_many_entry : goal.returns-in_err-add_vertex-clause-too_many_entry
returns-in_err-add_vertex-clause-too_many_entry g c =
    let given = err_from_is_err_and c.from_residual.result c.from_residual.ensures.1 in
    rw (given.1, given.2) (λ e. absurd ((making.fault_told _).2 e))

pub returns-in_err-add_vertex-clause-no_more_entry : goal.returns-in_err-add_vertex-clause-no_more_entry
returns-in_err-add_vertex-clause-no_more_entry g c =
    let given = err_from_is_err_and c.from_residual.result c.from_residual.ensures.1 in
    rw (given.1, given.2) (λ e. absurd ((making.fault_told _).1 e))

pub returns-clause-crowded : goal.returns-clause-crowded
returns-clause-crowded g c =
    λ is graph stands subject low many.
    let few = subst (λ (h : ProtectionGraph). length h.subjects < MAX_WORKERS) stands (c.in_default-met.ensures.1 is) in absurd (omega (arith, few, many))

pub add_vertex-requires-clause-above : goal.add_vertex-requires-clause-above
add_vertex-requires-clause-above g c = making.above _ c.self.inside.made c.self.invariant c.args.worker (c.in-Some.ensures.active.0 refl) c.args.kind c.args.label c.args.draft

pub add_vertex-requires-clause-few : goal.add_vertex-requires-clause-few
add_vertex-requires-clause-few g c =
    making.few _ c.self.inside.made c.self.invariant c.args.worker (c.in-Some.ensures.active.0 refl) c.args.kind c.args.label c.args.draft (has_room g (goal.at.add_vertex-requires-clause-few g c).In_default-met)

pub returns-in_default-clause-crowded : goal.returns-in_default-clause-crowded
returns-in_default-clause-crowded g c =
    let none : IsActive c.self.inside.heap c.args.worker → ⊥ = λ is. false_not_true (c.in_default.ensures.active.1 is) in
    λ _ graph stands subject _ _.
    absurd (none (active_seen c.self.invariant c.self.view_is stands c.args.worker subject))

pub overflow_add-self : goal.overflow_add-self
overflow_add-self g c =
    let room = has_room g (goal.at.overflow_add-self g c).In_default-met in
    let faithful = c.self.invariant.faithful in
    omega (arith, room.0, limit_of _ faithful, faithful.origin.plan.limits.1, c.self.invariant.is_made)
