use Rattle.std.proofs.Common.{◌∙◌, ◌∷◌, [], ℕ, List, ap, sym, subst, arith}
use Rattle.std.specs.List.{Contains}
use Rattle.std.proofs.lemmas.List.Elements.{Contains-get_or}
use Rattle.tg_subjects.specs.Subjects.{names_of}
use Rattle.tg_subjects.specs.declared.subject.Subject.{Subject}
use Rattle.tg_rows.specs.Content.{Content, IsNamed}
use Rattle.tg_graph.specs.Standing.{IsContentOf}
use Rattle.tg_snapshot.specs.Snapshot.{graph_shown}
use Rattle.tg_rebuild.specs.Inner.Raising.{acting}
use Rattle.tg_rebuild.proofs.EdgeLaws.{all_named, all_stored, finished}
use Rattle.tg_rebuild.proofs.RaisingLaws.{acting_holder, content_same}
use Rattle.tg_rebuild.proofs.heap.raise.Goals as goal

pub worker_place-zero-requires : goal.worker_place-zero-requires
worker_place-zero-requires g c =
    subst (λ (xs : List ℕ). Contains xs 0) (sym c.requires.zero) (Contains-get_or (0 ∷ []) 0 0 (omega arith))

pub place_vertices-requires : goal.place_vertices-requires
place_vertices-requires g c =
    let p = c.args.snapshot.now in
    record {
      raised = c.in_ok-add_subjects.ensures.raised;
      holder = subst (λ (xs : List ℕ). Contains xs c.holder_of-holder.result) (sym c.in_ok-add_subjects.ensures.subjects)
          (subst (Contains (acting p.picture.subjects)) (sym c.holder_of-holder.ensures) (acting_holder p.picture.subjects));
      zero = c.in_ok-add_subjects.ensures.kept.vertices 0 c.worker_place-zero.result (c.in_ok-hand_on.ensures.kept.vertices 0 c.worker_place-zero.result c.worker_place-zero.ensures.vertex);
    }

pub add_edges-requires-clause-holder : goal.add_edges-requires-clause-holder
add_edges-requires-clause-holder g c =
    let p = c.args.snapshot.now in
    subst (λ (subjects : List Subject). Contains (names_of subjects) c.holder_of-holder.result) (sym c.in_ok-places.ensures.kept.subjects)
    (subst (λ (xs : List ℕ). Contains xs c.holder_of-holder.result) (sym c.in_ok-add_subjects.ensures.subjects)
    (subst (Contains (acting p.picture.subjects)) (sym c.holder_of-holder.ensures) (acting_holder p.picture.subjects)))

pub leave_none-requires : goal.leave_none-requires
leave_none-requires g c =
    ap names_of (c.in_ok-add_edges.ensures.kept.subjects ∙ c.in_ok-places.ensures.kept.subjects) ∙ c.in_ok-add_subjects.ensures.subjects

pub returns-clause-stands : goal.returns-clause-stands
returns-clause-stands g c =
    let p = c.args.snapshot.now in
    subst (λ (d : Content). IsContentOf d (graph_shown p)) (sym (content_same c.add_edges.new.heap c.leave_none.new.heap c.leave_none.ensures.table c.leave_none.ensures.payloads))
    (finished p c.picture.ensures.accepted c.place_vertices.new.heap c.add_edges.new.heap c.in_ok-places.ensures.made c.in_ok-add_edges.ensures.joined c.in_ok-places.places.items c.in_ok-places.ensures.placed c.subjects.ensures.table)

pub returns-clause-vertices : goal.returns-clause-vertices
returns-clause-vertices g c = λ y shown.
    let p = c.args.snapshot.now in
    subst (λ (d : Content). IsNamed d y) (sym (content_same c.add_edges.new.heap c.leave_none.new.heap c.leave_none.ensures.table c.leave_none.ensures.payloads))
    (all_named p c.picture.ensures.accepted c.place_vertices.new.heap c.add_edges.new.heap c.in_ok-places.ensures.made c.in_ok-add_edges.ensures.joined c.in_ok-places.places.items c.in_ok-places.ensures.placed c.subjects.ensures.table y shown)

pub returns-clause-values : goal.returns-clause-values
returns-clause-values g c = λ y shown.
    let p = c.args.snapshot.now in
    ap (λ (d : Content). d.value y) (content_same c.add_edges.new.heap c.leave_none.new.heap c.leave_none.ensures.table c.leave_none.ensures.payloads)
    ∙ all_stored p c.picture.ensures.accepted c.place_vertices.new.heap c.add_edges.new.heap c.in_ok-places.ensures.made c.in_ok-add_edges.ensures.joined c.in_ok-places.places.items c.in_ok-places.ensures.placed c.subjects.ensures.table y shown
