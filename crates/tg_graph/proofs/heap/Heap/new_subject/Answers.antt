use Rattle.std.proofs.Common.{◌≡◌, ◌⊎◌, ◌<◌, ◌∙◌, ℕ, List, [], ◌∷◌, ◌++◌, refl, sym, ap, subst, length}
use Rattle.std.specs.List.{All}
use Rattle.tg_model.specs.Graph.{with_rights}
use Rattle.tg_model.specs.Rules.{with_value}
use Rattle.tg_word.specs.declared.Place.{Place}
use Rattle.tg_subjects.specs.Subjects.{AreSubjects, IsLeastFree}
use Rattle.tg_subjects.specs.declared.subject.Subject.{Subject}
use Rattle.tg_rows.specs.Index.{names_indexed}
use Rattle.tg_rows.specs.Content.{IsContent, IsNamed}
use Rattle.tg_graph.specs.Heap.{HeapState, IsWellFormed, KeepsIndexes, content_of, nursery_of}
use Rattle.tg_rows.specs.Rows.{IsVertexAt}
use Rattle.tg_graph.proofs.Heaps.{names_above, well_formed_more}
use Rattle.tg_word.specs.declared.TheConstants.{MAX_NURSERIES}
use Rattle.tg_word.specs.Word.{nursery_space}
use Rattle.tg_rows.specs.Spots.{IsMadeInRow}
use Rattle.tg_graph.proofs.heap.Heap.new_subject.Goals as goal

pub add-requires : goal.add-requires
add-requires g c =
    let same = ap (λ (heap : HeapState). heap.subjects) c.self.view_is ∙ c.in_ok-place.ensures.place.kept.subjects in
    record {
      few = subst (λ (subjects : List Subject). length subjects < MAX_NURSERIES) (sym same) c.requires.few;
      above = subst (All (λ x. x.name < c.args.name)) (sym same) (names_above c.args.self.now.subjects c.args.name c.requires.above);
    }

pub invariant_of-self : goal.invariant_of-self
invariant_of-self g c =
    let s : HeapState = record { table = c.self.inside.cells.spaces; payloads = c.self.inside.cells.payloads; subjects = c.self.inside.subjects; remembered = c.self.inside.cells.remembered.places; indexed = names_indexed c.self.inside.cells.spaces.spaces c.self.inside.rows.entries } in
    let x : Subject = record { name = c.args.name; nursery = c.add.result; place = c.in_ok-place.place } in
    let are : AreSubjects (s.subjects ++ x ∷ []) = subst AreSubjects c.add.ensures.added c.add.ensures.subjects in
    let vertex = subst (λ (heap : HeapState). IsVertexAt heap.table.spaces c.args.name c.in_ok-place.place) (sym c.self.view_is) c.in_ok-place.ensures.place.vertex in (
      subst (λ (subjects : List Subject). IsWellFormed (record { table = s.table; payloads = s.payloads; subjects = subjects; remembered = s.remembered; indexed = s.indexed })) (sym c.add.ensures.added) (well_formed_more s c.self.invariant.0 x are vertex),
      c.self.invariant.1,
    )

pub returns : goal.returns
returns g c =
    let old = c.args.self.now in
    let content = content_of old in
    let done = c.in_ok-place.ensures.done in
    let x : Subject = record { name = c.args.name; nursery = c.add.result; place = c.in_ok-place.place } in
    let kept = c.in_ok-place.ensures.place.kept in
    let back = sym c.self.view_is in
    let same = ap (λ (heap : HeapState). heap.subjects) c.self.view_is ∙ kept.subjects in
    let indexed = subst (λ (heap : HeapState). KeepsIndexes old heap done.indexed.0) back done.indexed.2 in
    record {
      made = subst (λ (heap : HeapState). IsContent (content_of heap) (λ x. IsNamed content x ⊎ (x ≡ c.args.name)) (with_rights content.label c.args.worker c.args.name c.args.label) (with_value content.value c.args.name c.args.draft)) back done.made;
      placed = subst (λ (heap : HeapState). IsMadeInRow old.table heap.table old.remembered heap.remembered (nursery_space (nursery_of old c.args.worker)) c.args.worker c.args.name c.args.label) back done.placed;
      added = record {
        subject = x;
        named = refl;
        nursery = subst (λ (subjects : List Subject). IsLeastFree subjects c.add.result) same c.add.ensures.nursery;
        vertex = subst (λ (heap : HeapState). IsVertexAt heap.table.spaces c.args.name c.in_ok-place.place) back c.in_ok-place.ensures.place.vertex;
        subjects = c.add.ensures.added ∙ ap (λ (subjects : List Subject). subjects ++ x ∷ []) same;
        limits = subst (λ (heap : HeapState). heap.table.limits ≡ old.table.limits) back kept.limits;
        vertices = subst (λ (heap : HeapState). (y : ℕ) (p : Place) → IsVertexAt old.table.spaces y p → IsVertexAt heap.table.spaces y p) back kept.vertices;
      };
      indexed = (done.indexed.0, done.indexed.1, record { made = indexed.made; kept = indexed.kept; others = indexed.others });
      handed_back = tt;
      refused = tt;
      full = tt;
    }
