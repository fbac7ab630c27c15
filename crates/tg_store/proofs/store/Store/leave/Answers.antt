-- What is given up on the heap and entered is what leaves the graph.
use Rattle.std.proofs.Common.{◌≡◌, ◌∙◌, ◌++◌, ◌∷◌, [], ℕ, ◌+◌, ◌<◌, ◌≤◌, List, ap, arith, length, map, refl, subst, sym}
use Rattle.std.proofs.lemmas.List.{append_assoc}
use Rattle.tg_rights.specs.RightSet.{RightSet}
use Rattle.tg_model.specs.declared.command.Command.TheVariants.{Retire}
use Rattle.tg_model.specs.declared.command.Deed.TheVariants.{Plain}
use Rattle.tg_model.specs.Graph.{ProtectionGraph, IsSound, IsSubject, listing_of, without_subject}
use Rattle.tg_rows.specs.Content.{Content}
use Rattle.tg_model.specs.Rules.{step}
use Rattle.tg_journal.specs.declared.entry.Entry.{Entry}
use Rattle.tg_journal.specs.History.{IsLegal, graph_after}
use Rattle.tg_graph.specs.Heap.{content_of, subject_names}
use Rattle.tg_graph.specs.Standing.{IsContentOf}
use Rattle.tg_store.specs.Leaving.{HasLeft, leaving, removal, retiring}
use Rattle.tg_store.specs.Store.{StoreState, graph_of_store}
use Rattle.tg_store.proofs.LeaveLaws.{IsStore-left, graph_of_left, legal_removals, listed, sound_before}
use Rattle.tg_store.proofs.AnswerLaws.{subject_found}
use Rattle.tg_store.proofs.StandLaws.{IsStore-unchanged, content_seen, subject_here, subject_seen}
use Rattle.tg_store.proofs.store.Store.leave.Goals as goal

-- what was entered, told of the worker's name and of the graph's listing
left_entries : (old reserved new : List Entry) (x w : ℕ) (row listing : List (ℕ × RightSet)) → new ≡ reserved ++ map (removal x) row ++ retiring x ∷ [] → reserved ≡ old
    → x ≡ w → row ≡ listing → new ≡ old ++ (map (removal w) listing ++ retiring w ∷ [])
left_entries old reserved new x w row listing made same named is =
    made ∙ ap (λ es. es ++ map (removal x) row ++ retiring x ∷ []) same ∙ append_assoc old (map (removal x) row) (retiring x ∷ [])
    ∙ (λ i. old ++ (map (removal (named i)) (is i) ++ retiring (named i) ∷ []))

-- the heap represents the graph that the worker has left
left_heap : (before after : Content) (g : ProtectionGraph) (x w : ℕ) (row : List (ℕ × RightSet)) → x ≡ w → row ≡ listing_of g.label g.made w → IsSound g → IsSubject g w → IsContentOf before g
    → ((h : ProtectionGraph) → IsContentOf before h → IsSubject h x → IsLegal h (map (removal x) row) → IsContentOf after (step (graph_after h (map (removal x) row)) x (Plain Retire)))
    → IsContentOf after (step (graph_after g (map (removal w) (listing_of g.label g.made w))) w (Plain Retire))
left_heap before after g x w row named is sound subject stands each =
    let legal : IsLegal g (map (removal x) row) = subst (λ es. IsLegal g es) (λ i. map (removal (sym named i)) (sym is i)) (legal_removals g w sound subject) in
    let left = each g stands (subst (λ (y : ℕ). IsSubject g y) (sym named) subject) legal in
    subst (λ (h : ProtectionGraph). IsContentOf after h) (λ i. step (graph_after g (map (removal (named i)) (is i))) (named i) (Plain Retire)) left

-- there is room for an entry of each edge, and one more
room_for : (row count spare : ℕ) → count + 1 ≤ spare → count ≡ row → row < spare
room_for row count spare room is = omega arith

pub invariant_of-self : goal.invariant_of-self
invariant_of-self g c =
    IsStore-unchanged _ _ c.self.inside.made c.self.invariant (record { opening = refl; entries = c.reserve_many.ensures.entries; handed = c.reserve_many.ensures.start; heap = record { table = refl; entries = refl; subjects = refl; remembered = refl; indexed = refl }; collections = refl })

pub leave_heap-requires-clause-subject : goal.leave_heap-requires-clause-subject
leave_heap-requires-clause-subject g c = subject_found c.self.inside.heap c.args.worker c.in-Some.subject c.in-Some.ensures.there c.in-Some.ensures.nursery c.in-Some.ensures.vertex

pub leave_heap-requires-clause-room : goal.leave_heap-requires-clause-room
leave_heap-requires-clause-room g c =
    room_for (length c.in_ok-row.row) (length c.as_slice-count.result.now) c.reserve_many.new.self.spare c.in_ok-reserve_many.ensures.room (ap (λ es. length es) c.as_slice-count.ensures)

pub invariant_of-self-2 : goal.invariant_of-self-2
invariant_of-self-2 g c =
    let old : StoreState = record { opening = c.self.inside.opening; entries = c.self.inside.journal.entries; handed = c.self.inside.journal.start; heap = c.self.inside.heap; collections = c.self.inside.collections } in
    let new : StoreState = record { opening = c.self.inside.opening; entries = c.leave_heap.new.journal.entries; handed = c.leave_heap.new.journal.start; heap = c.leave_heap.new.heap; collections = c.self.inside.collections } in
    let graph : ProtectionGraph = graph_of_store old in
    let x = c.in-Some.subject.name in
    let w = c.args.worker in
    let named : x ≡ w = c.in-Some.ensures.there.named in
    let faithful = c.self.invariant.faithful in
    let subject : IsSubject graph w = subject_here old faithful graph w refl (c.in-Some.ensures.active.0 refl) in
    let row : c.in_ok-row.row ≡ listing_of graph.label graph.made w =
    listed (content_of old.heap) graph _ w c.in_ok-row.row faithful.stands subject c.in-Some.ensures.vertex.named c.in_ok-row.ensures in
    let entries : new.entries ≡ old.entries ++ leaving graph w =
    left_entries old.entries c.reserve_many.new.self.entries new.entries x w c.in_ok-row.row (listing_of graph.label graph.made w) c.leave_heap.ensures.entries c.reserve_many.ensures.entries named row in
    IsStore-left old new w faithful subject refl entries c.self.inside.made c.self.invariant.is_made
    (left_heap (content_of old.heap) (content_of new.heap) graph x w c.in_ok-row.row named row (sound_before old new w faithful subject refl entries) subject faithful.stands c.leave_heap.ensures.stands)
    (c.leave_heap.ensures.subjects ∙ ap (λ y. without_subject (subject_names old.heap) y) named)

pub returns-clause-left : goal.returns-clause-left
returns-clause-left g c =
    let old : StoreState = record { opening = c.self.inside.opening; entries = c.self.inside.journal.entries; handed = c.self.inside.journal.start; heap = c.self.inside.heap; collections = c.self.inside.collections } in
    let new : StoreState = record { opening = c.self.inside.opening; entries = c.leave_heap.new.journal.entries; handed = c.leave_heap.new.journal.start; heap = c.leave_heap.new.heap; collections = c.self.inside.collections } in
    let graph : ProtectionGraph = graph_of_store old in
    let x = c.in-Some.subject.name in
    let w = c.args.worker in
    let faithful = c.self.invariant.faithful in
    let subject : IsSubject graph w = subject_here old faithful graph w refl (c.in-Some.ensures.active.0 refl) in
    let row : c.in_ok-row.row ≡ listing_of graph.label graph.made w =
    listed (content_of old.heap) graph _ w c.in_ok-row.row faithful.stands subject c.in-Some.ensures.vertex.named c.in_ok-row.ensures in
    let entries : new.entries ≡ old.entries ++ leaving graph w =
    left_entries old.entries c.reserve_many.new.self.entries new.entries x w c.in_ok-row.row (listing_of graph.label graph.made w) c.leave_heap.ensures.entries c.reserve_many.ensures.entries c.in-Some.ensures.there.named row in
    let left : HasLeft w old new = record {
      entries = entries;
      graph = graph_of_left old new w faithful subject refl entries;
      opening = refl;
      handed = c.leave_heap.ensures.start ∙ c.reserve_many.ensures.start;
      limits = c.leave_heap.ensures.limits;
      collections = refl;
    } in
    subst (λ (s : StoreState). HasLeft w s new) c.self.view_is left

pub returns-clause-count : goal.returns-clause-count
returns-clause-count g c = λ graph stands.
    let row = listed (content_of c.self.inside.heap) graph _ c.args.worker c.in_ok-row.row (content_seen c.self.invariant c.self.view_is stands) (subject_seen c.self.invariant c.self.view_is stands c.args.worker (c.in-Some.ensures.active.0 refl)) c.in-Some.ensures.vertex.named c.in_ok-row.ensures in
    ap (λ es. length es) (c.as_slice-count.ensures ∙ row)
