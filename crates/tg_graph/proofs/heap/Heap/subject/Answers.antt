use Rattle.std.proofs.Common.{subst}
use Rattle.tg_subjects.specs.Subjects.{IsSubjectNamed}
use Rattle.tg_rows.specs.Index.{names_indexed}
use Rattle.tg_graph.specs.Heap.{HeapState}
use Rattle.tg_rows.specs.Rows.{IsVertexAt}
use Rattle.tg_rows.proofs.Results.{if_some}
use Rattle.tg_graph.proofs.Heaps.{subject_vertex}
use Rattle.tg_graph.proofs.heap.Heap.subject.Goals as goal

pub returns-clause-vertex : goal.returns-clause-vertex
returns-clause-vertex g c =
    let s : HeapState = record { table = c.self.inside.cells.spaces; payloads = c.self.inside.cells.payloads; subjects = c.self.inside.subjects; remembered = c.self.inside.cells.remembered.places; indexed = names_indexed c.self.inside.cells.spaces.spaces c.self.inside.rows.entries } in
    if_some c.find.result (IsSubjectNamed s.subjects c.args.name) (λ subject. IsVertexAt c.args.self.now.table.spaces c.args.name subject.place)
    (λ subject is. subst (λ (x : HeapState). IsVertexAt x.table.spaces c.args.name subject.place) c.self.view_is (subject_vertex s c.self.invariant.0 c.args.name subject is)) c.find.ensures.there
