-- The row that the heap lists is the graph's listing.
use Rattle.std.proofs.Common.{refl}
use Rattle.tg_graph.specs.Heap.{content_of}
use Rattle.tg_store.proofs.LeaveLaws.{listed}
use Rattle.tg_store.proofs.StandLaws.{content_seen, subject_seen}
use Rattle.tg_store.proofs.store.Store.row.Goals as goal

pub returns-clause-edges : goal.returns-clause-edges
returns-clause-edges g c = λ graph stands.
    listed (content_of c.self.inside.heap) graph _ c.args.worker c.in_ok-row.row (content_seen c.self.invariant c.self.view_is stands) (subject_seen c.self.invariant c.self.view_is stands c.args.worker (c.in-Some.ensures.active.0 refl)) c.in-Some.ensures.vertex.named c.in_ok-row.ensures
