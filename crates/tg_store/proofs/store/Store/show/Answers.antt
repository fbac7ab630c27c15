-- The lists are of what the subjects reach on the graph.
use Rattle.std.proofs.Common.{◌≡◌, ◌∙◌, List, ℕ, false, sym, ap, subst}
use Rattle.std.specs.Prelude.{EachIndex}
use Rattle.std.specs.List.{All}
use Rattle.tg_rights.specs.RightSet.{is_none_held}
use Rattle.tg_model.specs.declared.edge.Edge.{Edge}
use Rattle.tg_model.specs.Picture.{Shown}
use Rattle.tg_snapshot.specs.Snapshot.{ComesAfter, EdgePrecedes}
use Rattle.tg_journal.specs.Inner.Showing.{AreListsOf}
use Rattle.tg_word.specs.declared.Place.{Place}
use Rattle.tg_graph.specs.Heap.{content_of, subject_names}
use Rattle.tg_store.specs.Inner.Reaching.{AreBelow, AreReachedIn, names_found}
use Rattle.tg_store.specs.Inner.Saving.{ShowsEdges}
use Rattle.tg_store.specs.Store.{StoreState, graph_of_store}
use Rattle.tg_store.proofs.PictureLaws.{below_made}
use Rattle.tg_store.proofs.SavedLaws.{lists_of_store}
use Rattle.tg_store.proofs.store.Store.show.Goals as goal

pub vertices_reached-requires : goal.vertices_reached-requires
vertices_reached-requires g c =
    let store : StoreState = record { opening = c.self.inside.opening; entries = c.self.inside.journal.entries; handed = c.self.inside.journal.start; heap = c.self.inside.heap; collections = c.self.inside.collections } in
    subst (AreBelow (content_of store.heap)) (sym c.self.invariant.is_made) (below_made store c.self.invariant.faithful)

pub edges_of-requires-clause-placed : goal.edges_of-requires-clause-placed
edges_of-requires-clause-placed g c = let are = subst (AreReachedIn c.self.inside.heap) (sym c.as_slice-found.ensures.value) c.in_ok-reached.ensures in are.placed

pub edges_of-requires-clause-rise : goal.edges_of-requires-clause-rise
edges_of-requires-clause-rise g c = let are = subst (AreReachedIn c.self.inside.heap) (sym c.as_slice-found.ensures.value) c.in_ok-reached.ensures in are.rise

pub values_of-requires-clause-placed : goal.values_of-requires-clause-placed
values_of-requires-clause-placed g c = let are = subst (AreReachedIn c.self.inside.heap) (sym c.as_slice-found.ensures.value) c.in_ok-reached.ensures in are.placed

pub values_of-requires-clause-rise : goal.values_of-requires-clause-rise
values_of-requires-clause-rise g c = let are = subst (AreReachedIn c.self.inside.heap) (sym c.as_slice-found.ensures.value) c.in_ok-reached.ensures in are.rise

pub returns-clause-lists : goal.returns-clause-lists
returns-clause-lists g c =
    let store : StoreState = record { opening = c.self.inside.opening; entries = c.self.inside.journal.entries; handed = c.self.inside.journal.start; heap = c.self.inside.heap; collections = c.self.inside.collections } in
    let is = c.new-picture.ensures in
    let vs : List (ℕ × Place) = c.as_slice-found.result.now in
    subst (λ (s : StoreState). AreListsOf (graph_of_store s) c.new-picture.result c.in_ok-vertices.vertices.items) c.self.view_is
    (lists_of_store store c.self.invariant.faithful vs c.new-picture.result c.in_ok-vertices.vertices.items
    (subst (AreReachedIn store.heap) (sym c.as_slice-found.ensures.value) c.in_ok-reached.ensures)
    (ap (λ (s : Shown). s.subjects) is ∙ c.in_ok-subjects.ensures ∙ ap (λ (s : StoreState). subject_names s.heap) (sym c.self.view_is))
    (ap (λ (s : Shown). s.made) is ∙ c.self.invariant.is_made)
    (ap (λ (s : Shown). s.limit) is ∙ c.max_vertices.ensures)
    c.in_ok-vertices.ensures
    (subst (ShowsEdges (content_of store.heap) (names_found vs)) (sym (ap (λ (s : Shown). s.edges) is)) (c.in_ok-edges.ensures (graph_of_store store).made (below_made store c.self.invariant.faithful))))

pub returns-clause-ends : goal.returns-clause-ends
returns-clause-ends g c =
    let store : StoreState = record { opening = c.self.inside.opening; entries = c.self.inside.journal.entries; handed = c.self.inside.journal.start; heap = c.self.inside.heap; collections = c.self.inside.collections } in
    let edges = c.in_ok-edges.ensures (graph_of_store store).made (below_made store c.self.invariant.faithful) in
    subst (λ (es : List Edge). EachIndex es (ComesAfter EdgePrecedes es)) (sym (ap (λ (s : Shown). s.edges) c.new-picture.ensures)) edges.rise

pub returns-clause-held : goal.returns-clause-held
returns-clause-held g c =
    let store : StoreState = record { opening = c.self.inside.opening; entries = c.self.inside.journal.entries; handed = c.self.inside.journal.start; heap = c.self.inside.heap; collections = c.self.inside.collections } in
    let edges = c.in_ok-edges.ensures (graph_of_store store).made (below_made store c.self.invariant.faithful) in
    subst (λ (es : List Edge). All (λ (e : Edge). is_none_held e.label ≡ false) es) (sym (ap (λ (s : Shown). s.edges) c.new-picture.ensures)) edges.held
