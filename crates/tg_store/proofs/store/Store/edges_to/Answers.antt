-- The edges that a walk over the heap finds are those of the graph.
use Rattle.std.proofs.Common.{◌∙◌, sym, ap, subst}
use Rattle.tg_model.specs.Graph.{ProtectionGraph}
use Rattle.tg_graph.specs.Heap.{content_of}
use Rattle.tg_store.specs.Holding.{AreEdgesTo}
use Rattle.tg_store.specs.Inner.Reaching.{AreBelow, AreReachedIn}
use Rattle.tg_store.specs.Store.{StoreState, graph_of_store}
use Rattle.tg_store.proofs.HoldingLaws.{edges_to_are, if_ok}
use Rattle.tg_store.proofs.PictureLaws.{below_made}
use Rattle.tg_store.proofs.store.Store.edges_to.Goals as goal

pub vertices_reached-requires : goal.vertices_reached-requires
vertices_reached-requires g c =
    let store : StoreState = record { opening = c.self.inside.opening; entries = c.self.inside.journal.entries; handed = c.self.inside.journal.start; heap = c.self.inside.heap; collections = c.self.inside.collections } in
    subst (AreBelow (content_of store.heap)) (sym c.self.invariant.is_made) (below_made store c.self.invariant.faithful)

pub edges_of_each-requires : goal.edges_of_each-requires
edges_of_each-requires g c = let are = subst (AreReachedIn c.self.inside.heap) (sym c.as_slice.ensures.value) c.in_ok-reached.ensures in are.placed

pub returns : goal.returns
returns g c = λ graph stands.
    let store : StoreState = record { opening = c.self.inside.opening; entries = c.self.inside.journal.entries; handed = c.self.inside.journal.start; heap = c.self.inside.heap; collections = c.self.inside.collections } in
    let reached = subst (AreReachedIn store.heap) (sym c.as_slice.ensures.value) c.in_ok-reached.ensures in
    if_ok c.edges_of_each.result c.edges_of_each.ensures
    (λ edges is. subst (λ (h : ProtectionGraph). AreEdgesTo h c.args.name edges.items) (ap graph_of_store c.self.view_is ∙ stands)
    (edges_to_are store.heap (content_of store.heap) (graph_of_store store) c.self.invariant.faithful.stands (sym c.self.invariant.faithful.subjects) c.as_slice.result.now reached c.args.name edges.items is))
