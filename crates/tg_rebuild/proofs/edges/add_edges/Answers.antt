use Rattle.std.proofs.Common.{◌≡◌, ◌∙◌, ◌++◌, ◌∷◌, ◌+◌, [], ℕ, List, ap, sym, subst, take}
use Rattle.std.proofs.lemmas.List.{take_more}
use Rattle.std.specs.List.{Contains}
use Rattle.tg_model.specs.declared.edge.Edge.{Edge}
use Rattle.tg_model.specs.Picture.{Shown}
use Rattle.tg_word.specs.declared.Place.{Place}
use Rattle.tg_subjects.specs.Subjects.{names_of}
use Rattle.tg_subjects.specs.declared.subject.Subject.{Subject}
use Rattle.tg_graph.specs.Heap.{content_of}
use Rattle.tg_snapshot.specs.declared.vertex.ShownVertex.{ShownVertex}
use Rattle.tg_snapshot.specs.Snapshot.{ShowsName}
use Rattle.tg_rebuild.proofs.EdgeLaws.{joined_more, kept_both, shown_ends, vertex_at}
use Rattle.tg_rebuild.proofs.LineLaws.{rise_in}
use Rattle.tg_rebuild.proofs.edges.add_edges.Goals as goal

pub line_from-from-requires-clause-rise : goal.line_from-from-requires-clause-rise
line_from-from-requires-clause-rise g c = rise_in c.args.snapshot.now c.picture.ensures.accepted c.vertices-vertices.result.now c.vertices-vertices.ensures

pub line_from-from-requires-clause-shown : goal.line_from-from-requires-clause-shown
line_from-from-requires-clause-shown g c =
    let ends = shown_ends c.args.snapshot.now c.picture.ensures.accepted c.edges-edges.result.now (c.edges-edges.ensures ∙ ap (λ (s : Shown). s.edges) c.picture.ensures.picture) c.loop-edge.edge-index c.edge-item.result c.loop-edge-test.true c.edge-item.is in
    subst (λ (vs : List ShownVertex). ShowsName vs c.edge-item.result.from) (sym c.vertices-vertices.ensures) ends.from

pub line_from-to-requires-clause-rise : goal.line_from-to-requires-clause-rise
line_from-to-requires-clause-rise g c = rise_in c.args.snapshot.now c.picture.ensures.accepted c.vertices-vertices.result.now c.vertices-vertices.ensures

pub line_from-to-requires-clause-shown : goal.line_from-to-requires-clause-shown
line_from-to-requires-clause-shown g c =
    let ends = shown_ends c.args.snapshot.now c.picture.ensures.accepted c.edges-edges.result.now (c.edges-edges.ensures ∙ ap (λ (s : Shown). s.edges) c.picture.ensures.picture) c.loop-edge.edge-index c.edge-item.result c.loop-edge-test.true c.edge-item.is in
    subst (λ (vs : List ShownVertex). ShowsName vs c.edge-item.result.to) (sym c.vertices-vertices.ensures) ends.to

pub add_edge-requires : goal.add_edge-requires
add_edge-requires g c =
    let nowhere : Place = record { space = 0; block = 0; cell = 0 } in
    let at = vertex_at c.args.snapshot.now c.picture.ensures.accepted c.args.heap.now c.loop-edge.heap c.vertices-vertices.result.now c.vertices-vertices.ensures c.args.places.now in
    record {
      worker = subst (λ (subjects : List Subject). Contains (names_of subjects) c.args.holder) (sym c.loop-edge.invariant.kept.subjects) c.requires.holder;
      from = (at c.edge-item.result.from c.line_from-from.result nowhere c.requires.placed c.loop-edge.invariant.kept c.line_from-from.ensures).object;
      to = (at c.edge-item.result.to c.line_from-to.result nowhere c.requires.placed c.loop-edge.invariant.kept c.line_from-to.ensures).object;
    }

pub loop-edge-preserved : goal.loop-edge-preserved
loop-edge-preserved g c =
    let nowhere : Place = record { space = 0; block = 0; cell = 0 } in
    let at = vertex_at c.args.snapshot.now c.picture.ensures.accepted c.args.heap.now c.loop-edge.heap c.vertices-vertices.result.now c.vertices-vertices.ensures c.args.places.now in
    let from = at c.edge-item.result.from c.line_from-from.result nowhere c.requires.placed c.loop-edge.invariant.kept c.line_from-from.ensures in
    let to = at c.edge-item.result.to c.line_from-to.result nowhere c.requires.placed c.loop-edge.invariant.kept c.line_from-to.ensures in
    let es : List Edge = c.edges-edges.result.now in
    let i : ℕ = c.loop-edge.edge-index in
    let e : Edge = c.edge-item.result in
    let more : take (i + 1) es ≡ take i es ++ e ∷ [] =
    take_more es i e c.loop-edge-test.true ∙ ap (λ (f : Edge). take i es ++ f ∷ []) (sym c.edge-item.is) in
    record {
      content = joined_more es i e (content_of c.args.heap.now) (content_of c.loop-edge.heap) (content_of c.add_edge.new.self) _ _ c.loop-edge.invariant.content from.named to.named c.in_ok-add_edge.ensures.added more;
      kept = kept_both c.args.heap.now c.loop-edge.heap c.add_edge.new.self c.loop-edge.invariant.kept c.in_ok-add_edge.ensures.kept;
    }
