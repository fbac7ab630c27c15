use Rattle.std.proofs.Common.{List, sym, subst}
use Rattle.tg_subjects.specs.Subjects.{AreSubjects}
use Rattle.tg_subjects.specs.declared.subject.Subject.{Subject}
use Rattle.tg_rows.specs.Index.{names_indexed}
use Rattle.tg_graph.specs.Heap.{HeapState, IsWellFormed}
use Rattle.tg_graph.proofs.Heaps.{well_formed_without}
use Rattle.tg_graph.proofs.heap.Heap.retire.Goals as goal

pub invariant_of-self : goal.invariant_of-self
invariant_of-self g c =
    let s : HeapState = record { table = c.self.inside.cells.spaces; payloads = c.self.inside.cells.payloads; subjects = c.self.inside.subjects; remembered = c.self.inside.cells.remembered.places; indexed = names_indexed c.self.inside.cells.spaces.spaces c.self.inside.rows.entries } in
    let are = subst AreSubjects c.retire.ensures.without c.retire.ensures.subjects in (
      subst (λ (subjects : List Subject). IsWellFormed (record { table = s.table; payloads = s.payloads; subjects = subjects; remembered = s.remembered; indexed = s.indexed })) (sym c.retire.ensures.without) (well_formed_without s c.self.invariant.0 c.args.name are),
      c.self.invariant.1,
    )
