use Rattle.std.proofs.Common.{◌↔◌, ◌∙◌, ℕ, List, length, ap, subst, sym}
use Rattle.std.specs.List.{Contains}
use Rattle.tg_model.specs.Graph.{without_rights}
use Rattle.tg_word.specs.declared.Place.{Place}
use Rattle.tg_space.specs.Generations.{AreRemembered}
use Rattle.tg_space.specs.SpaceList.{space_of}
use Rattle.tg_rows.specs.Index.{names_indexed}
use Rattle.tg_rows.specs.Content.{IsContent, IsNamed}
use Rattle.tg_graph.specs.Heap.{HeapState, KeepsPlaces, content_of, heap_of, name_of}
use Rattle.tg_rows.specs.Spots.{IsTakenFromRow}
use Rattle.tg_rows.specs.Steps.{ChangesTo}
use Rattle.tg_graph.proofs.Heaps.{content_after, heap_with, is_indexed, places_kept, well_formed_after}
use Rattle.tg_graph.proofs.heap.Heap.drop_rights.Goals as goal

pub invariant_of-self : goal.invariant_of-self
invariant_of-self g c =
    let s : HeapState = record { table = c.self.inside.cells.spaces; payloads = c.self.inside.cells.payloads; subjects = c.self.inside.subjects; remembered = c.self.inside.cells.remembered.places; indexed = names_indexed c.self.inside.cells.spaces.spaces c.self.inside.rows.entries } in
    let content = content_of s in
    let new = c.drop_rights.new.self in
    let label = without_rights content.label (name_of s c.args.from) c.args.name c.rights.result in
    let to = subst (λ p. ChangesTo s.table new.spaces p (IsNamed content) label content.value) (sym c.drop_rights.ensures.taken.payloads) c.drop_rights.ensures.taken.dropped in
    (well_formed_after s new.spaces new.payloads new.remembered.places (names_indexed new.spaces.spaces c.drop_rights.new.rows.entries) (IsNamed content) label content.value to (subst (λ (ps : List Place). AreRemembered new.spaces.spaces ps) (sym c.drop_rights.ensures.places) (c.drop_rights.ensures.taken.remembered c.self.invariant.0.remembered)) c.self.invariant.0, c.drop_rights.ensures.rows.indexed)

pub returns : goal.returns
returns g c =
    let s = heap_of c.self.inside.cells c.self.inside.subjects c.self.inside.rows.entries in
    let content = content_of s in
    let new = c.drop_rights.new.self in
    let rows = c.self.inside.rows.entries in
    let later = c.drop_rights.new.rows.entries in
    let names = names_indexed new.spaces.spaces later in
    let after = heap_with s new.spaces new.payloads new.remembered.places names in
    let label = without_rights content.label (name_of s c.args.from) c.args.name c.rights.result in
    let taken = c.drop_rights.ensures.taken in
    let to = subst (λ p. ChangesTo s.table new.spaces p (IsNamed content) label content.value) (sym taken.payloads) taken.dropped in
    let same = c.drop_rights.ensures.rows.kept in
    record {
      dropped =
          let Dropped : HeapState → Type 0 = λ x. IsContent (content_of after) (IsNamed (content_of x)) (without_rights (content_of x).label (name_of x c.args.from) c.args.name c.args.label) (content_of x).value in
          subst Dropped c.self.view_is
          (subst (λ r. IsContent (content_of after) (IsNamed content) (without_rights content.label (name_of s c.args.from) c.args.name r) content.value) c.rights.ensures.same
          (content_after s new.spaces new.payloads new.remembered.places names (IsNamed content) label content.value to));
      placed =
          subst (λ (x : HeapState). IsTakenFromRow x.table new.spaces c.args.from c.args.name c.args.label) c.self.view_is
          (subst (λ r. IsTakenFromRow s.table new.spaces c.args.from c.args.name r) c.rights.ensures.same taken.placed);
      kept = subst (λ (x : HeapState). KeepsPlaces x after) c.self.view_is (places_kept s new.spaces new.payloads new.remembered.places names (IsNamed content) label content.value to);
      used = taken.used ∙ ap (λ (x : HeapState). x.table.used) c.self.view_is;
      blocks = λ space. taken.blocks space ∙ ap (λ (x : HeapState). length (space_of x.table.spaces space)) c.self.view_is;
      remembered = c.drop_rights.ensures.places ∙ ap (λ (x : HeapState). x.remembered) c.self.view_is;
      indexed = subst (λ (heap : HeapState). (x : ℕ) → Contains names x ↔ Contains heap.indexed x) c.self.view_is (λ x. (
        λ has. let both = (is_indexed new.spaces.spaces new.payloads later x).0 has in (is_indexed s.table.spaces s.payloads rows x).1 ((to.content.names x).0 both.0, sym (same x) ∙ both.1),
        λ has. let both = (is_indexed s.table.spaces s.payloads rows x).0 has in (is_indexed new.spaces.spaces new.payloads later x).1 ((to.content.names x).1 both.0, same x ∙ both.1),
      ));
    }
