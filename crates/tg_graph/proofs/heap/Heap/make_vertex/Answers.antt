use Rattle.std.proofs.Common.{◌≡◌, ◌⊎◌, ⊎_elim, inl, ℕ, ap, refl, subst, sym}
use Rattle.std.specs.Prelude.{IsTrue}
use Rattle.std.proofs.lemmas.Bool.{cases_eq}
use Rattle.tg_space.specs.SpaceTable.{SpaceTable}
use Rattle.tg_space.proofs.Tables.{table_list}
use Rattle.tg_rows.proofs.Lookups.{name_of_vertex}
use Rattle.std.specs.List.{Contains}
use Rattle.std.proofs.lemmas.Result.{IfErr-weaker}
use Rattle.tg_rights.specs.RightSet.{RightSet}
use Rattle.tg_model.specs.Graph.{with_rights}
use Rattle.tg_model.specs.Rules.{with_value}
use Rattle.tg_word.specs.Word.{nursery_space}
use Rattle.tg_space.specs.declared.room_fault.RoomFault.TheVariants.{HeapFull}
use Rattle.tg_rows.specs.Index.{SameIndexed, indexed_in, names_indexed}
use Rattle.tg_rows.specs.Content.{IsContent, IsNamed}
use Rattle.tg_rows.specs.Rows.{IsVertexAt}
use Rattle.tg_graph.specs.Heap.{HeapState, KeepsPlaces, MakesVertexFor, content_of, name_of, nursery_of}
use Rattle.tg_rows.specs.Graph.{IsLongRow}
use Rattle.tg_rows.specs.Spots.{IsMadeInRow, LacksCellsFor}
use Rattle.tg_rows.specs.Steps.{ChangesTo}
use Rattle.tg_rows.proofs.Results.{both_errors, both_oks, either_way, error_gives, success_gives}
use Rattle.tg_graph.proofs.Heaps.{content_after, indexed_named, is_indexed, names_same, new_unindexed, own_kept, still_indexed, heap_with, nursery_inside, places_kept, well_formed_after, well_formed_roomy}
use Rattle.tg_graph.proofs.heap.Heap.make_vertex.Goals as goal

pub invariant_of-self : goal.invariant_of-self
invariant_of-self g c =
    let s : HeapState = record { table = c.self.inside.cells.spaces; payloads = c.self.inside.cells.payloads; subjects = c.self.inside.subjects; remembered = c.self.inside.cells.remembered.places; indexed = names_indexed c.self.inside.cells.spaces.spaces c.self.inside.rows.entries } in
    let content = content_of s in
    let new = c.new_vertex.new.self in
    let named = λ (x : ℕ). IsNamed content x ⊎ (x ≡ c.args.name) in
    let label = with_rights content.label (name_of s c.active-subject.result.place) c.args.name c.rights.result in
    let values = with_value content.value c.args.name c.args.draft in (
      either_way c.new_vertex.result c.new_vertex.ensures.vertex.made (both_errors ((new.spaces ≡ s.table) × (new.payloads.entries ≡ s.payloads.entries)) (new.remembered.places ≡ s.remembered) c.new_vertex.result
          (both_errors (new.spaces ≡ s.table) (new.payloads.entries ≡ s.payloads.entries) c.new_vertex.result c.new_vertex.ensures.vertex.spaces c.new_vertex.ensures.vertex.payloads) c.new_vertex.ensures.vertex.places)
          (λ to. well_formed_after s new.spaces new.payloads new.remembered.places (names_indexed new.spaces.spaces c.new_vertex.new.rows.entries) named label values to (c.new_vertex.ensures.vertex.remembered c.self.invariant.0.remembered) c.self.invariant.0)
          (λ same. well_formed_roomy s new.spaces new.payloads new.remembered.places (names_indexed new.spaces.spaces c.new_vertex.new.rows.entries) c.self.invariant.0 same.0.0 same.0.1 same.1),
      c.new_vertex.ensures.rows.indexed,
    )

pub returns-clause-done : goal.returns-clause-done
returns-clause-done g c =
    let s : HeapState = record { table = c.self.inside.cells.spaces; payloads = c.self.inside.cells.payloads; subjects = c.self.inside.subjects; remembered = c.self.inside.cells.remembered.places; indexed = names_indexed c.self.inside.cells.spaces.spaces c.self.inside.rows.entries } in
    let content = content_of s in
    let worker = c.args.worker in
    let name = c.args.name in
    let subject = c.active-subject.result in
    let from = subject.place in
    let own = name_of s from in
    let new = c.new_vertex.new.self in
    let rows = c.self.inside.rows.entries in
    let later = c.new_vertex.new.rows.entries in
    let indexed = names_indexed new.spaces.spaces later in
    let after = heap_with s new.spaces new.payloads new.remembered.places indexed in
    let made = c.new_vertex.ensures.vertex in
    let may = c.new_vertex.ensures.rows.names in
    let result = c.new_vertex.result in
    let rights = c.rights.result in
    let named = λ (x : ℕ). IsNamed content x ⊎ (x ≡ name) in
    let values = with_value content.value name c.args.draft in
    let label = with_rights content.label own name rights in
    let Made : Type 0 = ChangesTo s.table new.spaces new.payloads named label values in
    let whole = table_list s.table c.blocks-2.ensures.table in
    let vertex : IsVertexAt s.table.spaces worker from = subst (λ (x : HeapState). IsVertexAt x.table.spaces worker from) (sym c.self.view_is) c.active-subject.ensures.vertex in
    let nursery : subject.nursery ≡ nursery_of s worker = subst (λ (x : HeapState). subject.nursery ≡ nursery_of x worker) (sym c.self.view_is) c.active-subject.ensures.nursery in
    let fresh : IsNamed content name → ⊥ = subst (λ (x : HeapState). IsNamed (content_of x) name → ⊥) (sym c.self.view_is) c.requires.fresh in
    let there : IsNamed content own = name_of_vertex s.table.spaces s.payloads whole own from (record { object = vertex.object; named = refl }) in
    let InRow : ℕ → ℕ → Type 0 = λ n x. IsMadeInRow s.table new.spaces s.remembered new.remembered.places (nursery_space n) x name rights in
    let Lacks : ℕ → ℕ → Type 0 = λ n x. LacksCellsFor s.table (nursery_space n) 1 x name in
    let done : MakesVertexFor s after worker name rights c.args.draft result = record {
      made = success_gives result (λ to. subst (λ x. IsContent (content_of after) named (with_rights content.label x name rights) values) vertex.named (content_after s new.spaces new.payloads new.remembered.places indexed named label values to)) made.made;
      placed = success_gives result (λ placed. subst (λ n. InRow n worker) nursery (subst (InRow subject.nursery) vertex.named placed)) made.placed;
      indexed = success_gives result
          (λ both. let names = both.0.content.names in (
            from,
            vertex,
            record {
              made = λ long. (is_indexed new.spaces.spaces new.payloads later own).1 ((names own).1 (inl there), both.1 long);
              kept = own_kept s.table.spaces new.spaces.spaces s.payloads new.payloads rows later own may (λ x. (names own).1 (inl x));
              others = λ x other. ⊎_elim
                  (λ same. new_unindexed s.table.spaces new.spaces.spaces s.payloads new.payloads rows later own may x other (λ n. fresh (subst (IsNamed content) same n)) (indexed_named s.table.spaces s.payloads whole s.remembered rows c.self.invariant.1 x))
                  (λ apart. still_indexed s.table.spaces new.spaces.spaces s.payloads new.payloads rows later own may x other (λ n. ⊎_elim (λ old. old) (λ e. absurd (apart e)) ((names x).0 n)) (λ n. (names x).1 (inl n)))
                  (cases_eq x name);
            },
          ))
          (both_oks Made (IsLongRow new.spaces.spaces from → IsTrue (indexed_in later own)) result made.made c.new_vertex.ensures.rows.long);
      handed_back = made.handed_back;
      refused = error_gives result
          (λ same. record { table = same.0.0.0; entries = same.0.0.1; subjects = refl; remembered = same.0.1; indexed = names_same s.table.spaces new.spaces.spaces rows later (ap (λ (t : SpaceTable). t.spaces) same.0.0.0) same.1 })
          (both_errors (((new.spaces ≡ s.table) × (new.payloads.entries ≡ s.payloads.entries)) × (new.remembered.places ≡ s.remembered)) (SameIndexed rows later) result
          (both_errors ((new.spaces ≡ s.table) × (new.payloads.entries ≡ s.payloads.entries)) (new.remembered.places ≡ s.remembered) result
          (both_errors (new.spaces ≡ s.table) (new.payloads.entries ≡ s.payloads.entries) result made.spaces made.payloads) made.places) c.new_vertex.ensures.rows.kept);
      full = IfErr-weaker result (λ refused. refused.why ≡ HeapFull → Lacks subject.nursery own) (λ refused. refused.why ≡ HeapFull → Lacks (nursery_of s worker) worker)
          (λ refused lacks full. subst (λ n. Lacks n worker) nursery (subst (Lacks subject.nursery) vertex.named (lacks full))) made.full;
    } in
    subst (λ (x : HeapState). MakesVertexFor x after worker name c.args.label c.args.draft result) c.self.view_is
    (subst (λ (r : RightSet). MakesVertexFor s after worker name r c.args.draft result) c.rights.ensures.same done)

pub returns-clause-place : goal.returns-clause-place
returns-clause-place g c =
    let s : HeapState = record { table = c.self.inside.cells.spaces; payloads = c.self.inside.cells.payloads; subjects = c.self.inside.subjects; remembered = c.self.inside.cells.remembered.places; indexed = names_indexed c.self.inside.cells.spaces.spaces c.self.inside.rows.entries } in
    let content = content_of s in
    let new = c.new_vertex.new.self in
    let indexed = names_indexed new.spaces.spaces c.new_vertex.new.rows.entries in
    let named = λ (x : ℕ). IsNamed content x ⊎ (x ≡ c.args.name) in
    let label = with_rights content.label (name_of s c.active-subject.result.place) c.args.name c.rights.result in
    record {
      vertex = c.new_vertex.ensures.vertex.vertex;
      kept = success_gives c.new_vertex.result
          (λ to. subst (λ (x : HeapState). KeepsPlaces x (heap_with s new.spaces new.payloads new.remembered.places indexed)) c.self.view_is (places_kept s new.spaces new.payloads new.remembered.places indexed named label (with_value content.value c.args.name c.args.draft) to))
          c.new_vertex.ensures.vertex.made;
    }

pub new_vertex-requires-clause-vertex : goal.new_vertex-requires-clause-vertex
new_vertex-requires-clause-vertex g c =
    let s : HeapState = record { table = c.self.inside.cells.spaces; payloads = c.self.inside.cells.payloads; subjects = c.self.inside.subjects; remembered = c.self.inside.cells.remembered.places; indexed = names_indexed c.self.inside.cells.spaces.spaces c.self.inside.rows.entries } in
    let subject = c.active-subject.result in
    let there : Contains s.subjects subject = subst (λ (x : HeapState). Contains x.subjects subject) (sym c.self.view_is) c.active-subject.ensures.there.there in
    record {
      nursery = nursery_inside s c.self.invariant.0 subject there;
      some = c.rights.ensures.held;
      fresh = subst (λ (x : HeapState). IsNamed (content_of x) c.args.name → ⊥) (sym c.self.view_is) c.requires.fresh;
    }
