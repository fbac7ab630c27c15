-- What is given up on the heap and entered is what is withdrawn on the graph.
use Rattle.std.proofs.Common.{◌≡◌, ◌∙◌, ◌++◌, ◌≤◌, ℕ, List, get_or, length, map, refl, subst, sym}
use Rattle.std.specs.List.{Contains}
use Rattle.std.proofs.lemmas.List.Elements.{Contains-get_or}
use Rattle.tg_rights.specs.RightSet.{RightSet}
use Rattle.tg_model.specs.Graph.{ProtectionGraph}
use Rattle.tg_journal.specs.History.{IsLegal, graph_after}
use Rattle.tg_rows.specs.Content.{Content}
use Rattle.tg_graph.specs.Heap.{HeapState, content_of, subject_names}
use Rattle.tg_graph.specs.Standing.{IsContentOf}
use Rattle.tg_store.specs.Inner.Reaching.{AreBelow, names_found}
use Rattle.tg_store.specs.Store.{StoreState, graph_of_store}
use Rattle.tg_store.specs.Withdrawing.{AreHoldersOfSome, IsWithdrawn, given_up, givers_among, removal_over, withdrawing, withdrawn}
use Rattle.tg_store.specs.declared.store.withdrawal.Withdrawal.{Withdrawal}
use Rattle.tg_store.proofs.LeftLaws.{given_by, given_on_graph, left_reported}
use Rattle.tg_store.proofs.PictureLaws.{below_made}
use Rattle.tg_store.proofs.StandLaws.{IsStore-unchanged, sound_of}
use Rattle.tg_store.proofs.WithdrawLaws.{IsStore-withdrawn, graph_after_withdrawal, legal_withdrawing}
use Rattle.tg_store.proofs.store.Store.withdraw.Goals as goal

-- what the withdrawal lists on the heap
listed : (heap : HeapState) (target : ℕ) (rights : RightSet) (keep : List ℕ) (w : Withdrawal) (items es : List (ℕ × RightSet)) → es ≡ items → items ≡ given_up (content_of heap).label w.target w.rights (names_found w.givers.items)
    → w.target ≡ target → w.rights ≡ rights → names_found w.givers.items ≡ givers_among (subject_names heap) keep → es ≡ given_up (content_of heap).label target rights (givers_among (subject_names heap) keep)
listed heap target rights keep w items es shown are target_is rights_is givers_are = shown ∙ are ∙ (λ i. given_up (content_of heap).label (target_is i) (rights_is i) (givers_are i))

-- the heap represents the graph after what was listed was given up
stands_after : (before after : Content) (g : ProtectionGraph) (target : ℕ) (es given : List (ℕ × RightSet)) → es ≡ given → IsContentOf before g → IsLegal g (map (removal_over target) given)
    → ((h : ProtectionGraph) → IsContentOf before h → IsLegal h (map (removal_over target) es) → IsContentOf after (graph_after h (map (removal_over target) es))) → IsContentOf after (graph_after g (map (removal_over target) given))
stands_after before after g target es given is stands legal each =
    subst (λ (xs : List (ℕ × RightSet)). IsContentOf after (graph_after g (map (removal_over target) xs))) is
    (each g stands (subst (λ (xs : List (ℕ × RightSet)). IsLegal g (map (removal_over target) xs)) (sym is) legal))

pub holders_after-requires : goal.holders_after-requires
holders_after-requires g c =
    let store : StoreState = record { opening = c.self.inside.opening; entries = c.self.inside.journal.entries; handed = c.self.inside.journal.start; heap = c.self.inside.heap; collections = c.self.inside.collections } in
    subst (AreBelow (content_of store.heap)) (sym c.self.invariant.is_made) (below_made store c.self.invariant.faithful)

pub removals-requires : goal.removals-requires
removals-requires g c = c.in_ok-withdrawal.ensures.placed

pub invariant_of-self : goal.invariant_of-self
invariant_of-self g c =
    IsStore-unchanged _ _ c.self.inside.made c.self.invariant (record { opening = refl; entries = c.reserve_many.ensures.entries; handed = c.reserve_many.ensures.start; heap = record { table = refl; entries = refl; subjects = refl; remembered = refl; indexed = refl }; collections = refl })

pub enter_removals-requires-clause-active : goal.enter_removals-requires-clause-active
enter_removals-requires-clause-active g c =
    let heap = c.self.inside.heap in
    let es = c.as_slice.result.now in
    let told = c.in_ok-withdrawal.ensures in
    let items = listed heap c.args.target c.args.rights c.args.keep.now c.in_ok-withdrawal.withdrawal c.in_ok-removals.removals.items es c.as_slice.ensures.value c.in_ok-removals.ensures told.target told.rights told.givers in
    λ k d low.
    let e : ℕ × RightSet = get_or es k d in
    given_by (content_of heap).label c.args.target c.args.rights (subject_names heap) c.args.keep.now e (subst (λ (xs : List (ℕ × RightSet)). Contains xs e) items (Contains-get_or es k d low))

pub enter_removals-requires-clause-room : goal.enter_removals-requires-clause-room
enter_removals-requires-clause-room g c =
    subst (λ (es : List (ℕ × RightSet)). length es ≤ c.reserve_many.new.self.spare) (c.as_slice-count.ensures.value ∙ sym c.as_slice.ensures.value) c.in_ok-reserve_many.ensures.room

pub invariant_of-self-2 : goal.invariant_of-self-2
invariant_of-self-2 g c =
    let old : StoreState = record { opening = c.self.inside.opening; entries = c.self.inside.journal.entries; handed = c.self.inside.journal.start; heap = c.self.inside.heap; collections = c.self.inside.collections } in
    let new : StoreState = record { opening = c.self.inside.opening; entries = c.enter_removals.new.journal.entries; handed = c.enter_removals.new.journal.start; heap = c.enter_removals.new.heap; collections = c.self.inside.collections } in
    let graph : ProtectionGraph = graph_of_store old in
    let faithful = c.self.invariant.faithful in
    let target = c.args.target in
    let rights = c.args.rights in
    let keep = c.args.keep.now in
    let told = c.in_ok-withdrawal.ensures in
    let es = c.as_slice.result.now in
    let given = given_up graph.label target rights (givers_among graph.subjects keep) in
    let items : es ≡ given = listed old.heap target rights keep c.in_ok-withdrawal.withdrawal c.in_ok-removals.removals.items es c.as_slice.ensures.value c.in_ok-removals.ensures told.target told.rights told.givers
    ∙ given_on_graph (content_of old.heap) graph faithful.stands (subject_names old.heap) (sym faithful.subjects) target rights keep in
    let entries : new.entries ≡ old.entries ++ withdrawing graph target rights keep =
    c.enter_removals.ensures.entries ∙ (λ i. c.reserve_many.ensures.entries i ++ map (removal_over target) (items i)) in
    IsStore-withdrawn old new target rights keep faithful refl entries c.self.inside.made c.self.invariant.is_made
    (stands_after (content_of old.heap) (content_of new.heap) graph target es given items faithful.stands (legal_withdrawing graph (sound_of old faithful) target rights keep) c.enter_removals.ensures.stands)
    c.enter_removals.ensures.subjects

pub returns-clause-withdrawn : goal.returns-clause-withdrawn
returns-clause-withdrawn g c =
    let old : StoreState = record { opening = c.self.inside.opening; entries = c.self.inside.journal.entries; handed = c.self.inside.journal.start; heap = c.self.inside.heap; collections = c.self.inside.collections } in
    let new : StoreState = record { opening = c.self.inside.opening; entries = c.enter_removals.new.journal.entries; handed = c.enter_removals.new.journal.start; heap = c.enter_removals.new.heap; collections = c.self.inside.collections } in
    let graph : ProtectionGraph = graph_of_store old in
    let faithful = c.self.invariant.faithful in
    let target = c.args.target in
    let rights = c.args.rights in
    let keep = c.args.keep.now in
    let told = c.in_ok-withdrawal.ensures in
    let es = c.as_slice.result.now in
    let given = given_up graph.label target rights (givers_among graph.subjects keep) in
    let items : es ≡ given = listed old.heap target rights keep c.in_ok-withdrawal.withdrawal c.in_ok-removals.removals.items es c.as_slice.ensures.value c.in_ok-removals.ensures told.target told.rights told.givers
    ∙ given_on_graph (content_of old.heap) graph faithful.stands (subject_names old.heap) (sym faithful.subjects) target rights keep in
    let entries : new.entries ≡ old.entries ++ withdrawing graph target rights keep =
    c.enter_removals.ensures.entries ∙ (λ i. c.reserve_many.ensures.entries i ++ map (removal_over target) (items i)) in
    let after : graph_of_store new ≡ withdrawn graph target rights keep = graph_after_withdrawal old new target rights keep faithful refl entries in
    let left = c.in_ok-left.left.items in
    let is : IsWithdrawn target rights keep old new left = record {
      entries = entries;
      legal = legal_withdrawing graph (sound_of old faithful) target rights keep;
      graph = after;
      left = subst (λ (h : ProtectionGraph). AreHoldersOfSome h rights target left) (sym after)
          (left_reported old.heap (content_of old.heap) graph faithful.stands (sym faithful.subjects) target rights keep c.in_ok-withdrawal.withdrawal told.target told.rights told.givers
          c.in_ok-left.ensures.0 c.in_ok-left.ensures.1 left c.in_ok-left.ensures.2);
      opening = refl;
      handed = c.enter_removals.ensures.start ∙ c.reserve_many.ensures.start;
      limits = c.enter_removals.ensures.limits;
      collections = refl;
    } in
    subst (λ (s : StoreState). IsWithdrawn target rights keep s new left) c.self.view_is is
