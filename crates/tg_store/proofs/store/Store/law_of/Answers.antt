-- The law that the host is told is that of the graph's value.
use Rattle.std.proofs.Common.{sym, subst}
use Rattle.tg_graph.specs.Heap.{content_of}
use Rattle.tg_store.specs.Inner.Reaching.{AreBelow, AreReachedIn}
use Rattle.tg_store.specs.Store.{StoreState}
use Rattle.tg_store.proofs.PictureLaws.{below_made}
use Rattle.tg_store.proofs.SeeingLaws.{found_reached, law_to_host}
use Rattle.tg_store.proofs.StandLaws.{content_seen, stands_inside, subjects_of}
use Rattle.tg_store.proofs.store.Store.law_of.Goals as goal

pub vertices_reached-requires : goal.vertices_reached-requires
vertices_reached-requires g c =
    let store : StoreState = record { opening = c.self.inside.opening; entries = c.self.inside.journal.entries; handed = c.self.inside.journal.start; heap = c.self.inside.heap; collections = c.self.inside.collections } in
    subst (AreBelow (content_of store.heap)) (sym c.self.invariant.is_made) (below_made store c.self.invariant.faithful)

pub law_among-requires : goal.law_among-requires
law_among-requires g c = subst (AreReachedIn c.self.inside.heap) (sym c.as_slice.ensures.value) c.in_ok-reached.ensures

pub returns : goal.returns
returns g c = λ graph stands.
    let heap = c.self.inside.heap in
    let store : StoreState = record { opening = c.self.inside.opening; entries = c.self.inside.journal.entries; handed = c.self.inside.journal.start; heap = heap; collections = c.self.inside.collections } in
    let content = content_seen c.self.invariant c.self.view_is stands in
    let same = sym (subjects_of store c.self.invariant.faithful graph (stands_inside c.self.invariant c.self.view_is stands)) in
    let found = found_reached heap graph content same c.as_slice.result.now (subst (AreReachedIn heap) (sym c.as_slice.ensures.value) c.in_ok-reached.ensures) c.args.name in
    law_to_host (content_of heap) graph content c.args.name c.law_among.result c.law_among.ensures.law
    (λ some. found.0 (c.law_among.ensures.exactly.0 some), λ reached. c.law_among.ensures.exactly.1 (found.1 reached))
