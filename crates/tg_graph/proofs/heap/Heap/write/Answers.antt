use Rattle.std.proofs.Common.{List, ap, subst, sym}
use Rattle.std.proofs.lemmas.Result.{IfOk-weaker}
use Rattle.tg_model.specs.Rules.{written_at}
use Rattle.tg_word.specs.declared.Place.{Place}
use Rattle.tg_payload.specs.Table.{Payloads}
use Rattle.tg_space.specs.SpaceTable.{SpaceTable}
use Rattle.tg_space.specs.Generations.{AreRemembered}
use Rattle.tg_rows.specs.Content.{IsContent, IsNamed}
use Rattle.tg_graph.specs.Heap.{HeapState, KeepsPlaces, content_of, name_of, IsObject}
use Rattle.tg_rows.specs.Index.{AreIndexed, names_indexed}
use Rattle.tg_rows.specs.Steps.{ChangesTo}
use Rattle.tg_graph.proofs.Heaps.{content_after, heap_with, places_kept, well_formed_after, well_formed_roomy}
use Rattle.tg_rows.proofs.Results.{either_way}
use Rattle.tg_graph.proofs.heap.Heap.write.Goals as goal

pub invariant_of-self : goal.invariant_of-self
invariant_of-self g c =
    let s : HeapState = record { table = c.self.inside.cells.spaces; payloads = c.self.inside.cells.payloads; subjects = c.self.inside.subjects; remembered = c.self.inside.cells.remembered.places; indexed = names_indexed c.self.inside.cells.spaces.spaces c.self.inside.rows.entries } in
    let content = content_of s in
    let new = c.write.new.self in (
      either_way c.write.result c.write.ensures.written c.write.ensures.refused
          (λ to. well_formed_after s new.spaces new.payloads new.remembered.places (names_indexed new.spaces.spaces c.self.inside.rows.entries) (IsNamed content) content.label (written_at content.value (name_of s c.args.at) c.args.number) to (subst (λ (x : SpaceTable). AreRemembered x.spaces new.remembered.places) (sym c.write.ensures.spaces) (subst (λ (ps : List Place). AreRemembered s.table.spaces ps) (sym c.write.ensures.places) c.self.invariant.0.remembered)) c.self.invariant.0)
          (λ same. well_formed_roomy s new.spaces new.payloads new.remembered.places (names_indexed new.spaces.spaces c.self.inside.rows.entries) c.self.invariant.0 c.write.ensures.spaces (ap (λ (ps : Payloads). ps.entries) same) c.write.ensures.places),
      subst (λ (x : SpaceTable). AreIndexed x.spaces new.remembered.places c.self.inside.rows.entries) (sym c.write.ensures.spaces)
          (subst (λ (ps : List Place). AreIndexed s.table.spaces ps c.self.inside.rows.entries) (sym c.write.ensures.places) c.self.invariant.1),
    )

pub returns-clause-written : goal.returns-clause-written
returns-clause-written g c =
    let s : HeapState = record { table = c.self.inside.cells.spaces; payloads = c.self.inside.cells.payloads; subjects = c.self.inside.subjects; remembered = c.self.inside.cells.remembered.places; indexed = names_indexed c.self.inside.cells.spaces.spaces c.self.inside.rows.entries } in
    let content = content_of s in
    let new = c.write.new.self in
    let after = heap_with s new.spaces new.payloads new.remembered.places (names_indexed new.spaces.spaces c.self.inside.rows.entries) in
    let values = written_at content.value (name_of s c.args.at) c.args.number in
    let Written : HeapState → Type 0 = λ x. IsContent (content_of after) (IsNamed (content_of x)) (content_of x).label (written_at (content_of x).value (name_of x c.args.at) c.args.number) in
    IfOk-weaker c.write.result (λ _. ChangesTo s.table new.spaces new.payloads (IsNamed content) content.label values) (λ _. Written c.args.self.now)
    (λ _ to. subst Written c.self.view_is (content_after s new.spaces new.payloads new.remembered.places (names_indexed new.spaces.spaces c.self.inside.rows.entries) (IsNamed content) content.label values to)) c.write.ensures.written

pub returns-clause-kept : goal.returns-clause-kept
returns-clause-kept g c =
    let s : HeapState = record { table = c.self.inside.cells.spaces; payloads = c.self.inside.cells.payloads; subjects = c.self.inside.subjects; remembered = c.self.inside.cells.remembered.places; indexed = names_indexed c.self.inside.cells.spaces.spaces c.self.inside.rows.entries } in
    let content = content_of s in
    let new = c.write.new.self in
    let after = heap_with s new.spaces new.payloads new.remembered.places (names_indexed new.spaces.spaces c.self.inside.rows.entries) in
    let values = written_at content.value (name_of s c.args.at) c.args.number in
    IfOk-weaker c.write.result (λ _. ChangesTo s.table new.spaces new.payloads (IsNamed content) content.label values) (λ _. KeepsPlaces c.args.self.now after)
    (λ _ to. subst (λ (x : HeapState). KeepsPlaces x after) c.self.view_is (places_kept s new.spaces new.payloads new.remembered.places (names_indexed new.spaces.spaces c.self.inside.rows.entries) (IsNamed content) content.label values to)) c.write.ensures.written

pub write-requires : goal.write-requires
write-requires g c = record { graph = c.self.invariant.0.graph; object = subst (λ (x : HeapState). IsObject x c.args.at) (sym c.self.view_is) c.requires }
