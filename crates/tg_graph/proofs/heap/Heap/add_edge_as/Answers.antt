use Rattle.tg_rights.specs.RightSet.{RightSet}
use Rattle.tg_rows.specs.Index.{SameIndexed, indexed_in, names_indexed}
use Rattle.std.proofs.Common.{◌≡◌, ap, refl, subst, sym}
use Rattle.std.specs.Prelude.{IsTrue}
use Rattle.tg_space.specs.SpaceTable.{SpaceTable}
use Rattle.tg_space.proofs.Tables.{table_list}
use Rattle.tg_payload.specs.Table.{Payloads}
use Rattle.tg_rows.proofs.Lookups.{name_of_vertex}
use Rattle.std.specs.List.{Contains}
use Rattle.tg_model.specs.Graph.{with_rights}
use Rattle.tg_rows.specs.Content.{IsNamed}
use Rattle.tg_word.specs.declared.Place.{Place}
use Rattle.tg_graph.specs.Heap.{AddsEdgeFor, HeapState, IsObject, content_of, heap_of, name_of}
use Rattle.tg_rows.specs.Graph.{IsLongRow}
use Rattle.tg_rows.specs.Steps.{ChangesTo}
use Rattle.tg_rows.proofs.Results.{both_errors, both_oks, either_way, error_gives, success_gives}
use Rattle.tg_graph.proofs.Heaps.{content_after, heap_same, heap_with, is_indexed, names_same, own_kept, still_indexed, nursery_inside, places_kept, well_formed_after, well_formed_roomy}
use Rattle.tg_graph.proofs.heap.Heap.add_edge_as.Given.{Over}
use Rattle.tg_graph.proofs.heap.Heap.add_edge_as.Goals as goal

pub invariant_of-self : goal.invariant_of-self
invariant_of-self g c =
    let s : HeapState = record { table = c.self.inside.cells.spaces; payloads = c.self.inside.cells.payloads; subjects = c.self.inside.subjects; remembered = c.self.inside.cells.remembered.places; indexed = names_indexed c.self.inside.cells.spaces.spaces c.self.inside.rows.entries } in
    let content = content_of s in
    let new = c.add_edge.new.self in
    let label = with_rights content.label (name_of s c.args.from) (name_of s c.args.to) c.rights.result in (
      either_way c.add_edge.result c.add_edge.ensures.edge.added (both_errors (new.spaces ≡ s.table) (new.remembered.places ≡ s.remembered) c.add_edge.result c.add_edge.ensures.edge.refused c.add_edge.ensures.edge.places)
          (λ added.
          let to = subst (λ p. ChangesTo s.table new.spaces p (IsNamed content) label content.value) (sym c.add_edge.ensures.edge.payloads) added in
          well_formed_after s new.spaces new.payloads new.remembered.places (names_indexed new.spaces.spaces c.add_edge.new.rows.entries) (IsNamed content) label content.value to (c.add_edge.ensures.edge.remembered c.self.invariant.0.remembered) c.self.invariant.0)
          (λ same. well_formed_roomy s new.spaces new.payloads new.remembered.places (names_indexed new.spaces.spaces c.add_edge.new.rows.entries) c.self.invariant.0 same.0 (ap (λ (ps : Payloads). ps.entries) c.add_edge.ensures.edge.payloads) same.1),
      c.add_edge.ensures.rows.indexed,
    )

-- what is done, as one record
done : (g : Over) (c : goal.After-add_edge g) → AddsEdgeFor c.args.self.now (heap_with (heap_of c.self.inside.cells c.self.inside.subjects c.self.inside.rows.entries) c.add_edge.new.self.spaces c.add_edge.new.self.payloads c.add_edge.new.self.remembered.places (names_indexed c.add_edge.new.self.spaces.spaces c.add_edge.new.rows.entries)) c.args.worker.nursery c.args.from c.args.to c.args.label c.add_edge.result
done g c =
    let s : HeapState = record { table = c.self.inside.cells.spaces; payloads = c.self.inside.cells.payloads; subjects = c.self.inside.subjects; remembered = c.self.inside.cells.remembered.places; indexed = names_indexed c.self.inside.cells.spaces.spaces c.self.inside.rows.entries } in
    let content = content_of s in
    let from = c.args.from in
    let own = name_of s from in
    let new = c.add_edge.new.self in
    let rows = c.self.inside.rows.entries in
    let later = c.add_edge.new.rows.entries in
    let indexed = names_indexed new.spaces.spaces later in
    let after = heap_with s new.spaces new.payloads new.remembered.places indexed in
    let edge = c.add_edge.ensures.edge in
    let may = c.add_edge.ensures.rows.names in
    let result = c.add_edge.result in
    let label = with_rights content.label own (name_of s c.args.to) c.rights.result in
    let Added : Type 0 = ChangesTo s.table new.spaces s.payloads (IsNamed content) label content.value in
    let now : Added → ChangesTo s.table new.spaces new.payloads (IsNamed content) label content.value = λ added. subst (λ p. ChangesTo s.table new.spaces p (IsNamed content) label content.value) (sym edge.payloads) added in
    let there : IsNamed content own = name_of_vertex s.table.spaces s.payloads (table_list s.table c.blocks-2.ensures.table) own from (record { object = subst (λ (x : HeapState). IsObject x from) (sym c.self.view_is) c.requires.from; named = refl }) in
    let is : AddsEdgeFor s after c.args.worker.nursery from c.args.to c.rights.result result = record {
      added = success_gives result (λ added. content_after s new.spaces new.payloads new.remembered.places indexed (IsNamed content) label content.value (now added)) edge.added;
      placed = edge.placed;
      kept = success_gives result (λ added. places_kept s new.spaces new.payloads new.remembered.places indexed (IsNamed content) label content.value (now added)) edge.added;
      indexed = success_gives result
          (λ both. let names = (now both.0).content.names in record {
            made = λ long. (is_indexed new.spaces.spaces new.payloads later own).1 ((names own).1 there, both.1 long);
            kept = own_kept s.table.spaces new.spaces.spaces s.payloads new.payloads rows later own may (λ x. (names own).1 x);
            others = λ x other. still_indexed s.table.spaces new.spaces.spaces s.payloads new.payloads rows later own may x other (λ n. (names x).0 n) (λ n. (names x).1 n);
          })
          (both_oks Added (IsLongRow new.spaces.spaces from → IsTrue (indexed_in later own)) result edge.added c.add_edge.ensures.rows.long);
      refused = error_gives result
          (λ same. heap_same s new.spaces new.payloads new.remembered.places indexed same.0.0 edge.payloads same.0.1 (names_same s.table.spaces new.spaces.spaces rows later (ap (λ (t : SpaceTable). t.spaces) same.0.0) same.1))
          (both_errors ((new.spaces ≡ s.table) × (new.remembered.places ≡ s.remembered)) (SameIndexed rows later) result (both_errors (new.spaces ≡ s.table) (new.remembered.places ≡ s.remembered) result edge.refused edge.places) c.add_edge.ensures.rows.kept);
      full = edge.full;
    } in
    subst (λ (x : HeapState). AddsEdgeFor x after c.args.worker.nursery from c.args.to c.args.label result) c.self.view_is
    (subst (λ (r : RightSet). AddsEdgeFor s after c.args.worker.nursery from c.args.to r result) c.rights.ensures.same is)

pub returns : goal.returns
returns g c =
    let is = done g c in
    record { added = is.added; placed = is.placed; kept = is.kept; indexed = is.indexed; refused = is.refused; full = is.full }

pub add_edge-requires : goal.add_edge-requires
add_edge-requires g c =
    let s = heap_of c.self.inside.cells c.self.inside.subjects c.self.inside.rows.entries in
    let there : Contains s.subjects c.args.worker = subst (λ (x : HeapState). Contains x.subjects c.args.worker) (sym c.self.view_is) c.requires.worker in
    let object : (p : Place) → IsObject c.args.self.now p → IsObject s p = λ p. subst (λ (x : HeapState). IsObject x p) (sym c.self.view_is) in
    record {
      row = record { graph = c.self.invariant.0.graph; from = object c.args.from c.requires.from; indexed = c.self.invariant.1 };
      gift = record { nursery = nursery_inside s c.self.invariant.0 c.args.worker there; to = object c.args.to c.requires.to; some = c.rights.ensures.held };
    }
