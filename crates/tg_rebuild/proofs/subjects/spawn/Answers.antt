use Rattle.std.proofs.Common.{◌≡◌, ◌∙◌, ◌∷◌, ◌++◌, []}
use Rattle.tg_rows.proofs.Results.{both_oks, success_gives}
use Rattle.tg_graph.specs.Heap.{subject_names}
use Rattle.tg_rebuild.specs.Inner.Bare.{AddsBare, KeepsVertices}
use Rattle.tg_rebuild.proofs.LineLaws.{line_fits, line_in, rise_in, value_in}
use Rattle.tg_rebuild.proofs.RaisingLaws.{not_there, spawned}
use Rattle.tg_rebuild.proofs.subjects.spawn.Goals as goal

pub line_shown-requires-clause-rise : goal.line_shown-requires-clause-rise
line_shown-requires-clause-rise g c = rise_in c.args.snapshot.now c.picture.ensures.accepted c.vertices-vertices.result.now c.vertices-vertices.ensures

pub draft_of-requires : goal.draft_of-requires
draft_of-requires g c = line_fits c.args.snapshot.now c.picture.ensures.accepted c.vertices-vertices.result.now c.vertices-vertices.ensures c.line_shown.result c.index-vertices-line_shown.result c.line_shown.ensures.inside c.index-vertices-line_shown.is

pub add_subject-requires-clause-fresh : goal.add_subject-requires-clause-fresh
add_subject-requires-clause-fresh g c = not_there c.args.snapshot.now c.args.scaffold.holder c.args.name c.args.heap.now c.requires

pub returns : goal.returns
returns g c =
    let p = c.args.snapshot.now in
    let is = c.picture.ensures.accepted in
    let vs = c.vertices-vertices.result.now in
    let at = c.line_shown.result in
    let v = c.index-vertices-line_shown.result in
    let draft = c.in_ok-draft.draft in
    let old = c.args.heap.now in
    let new = c.add_subject.new.heap in
    let Added : Type 0 = AddsBare old new c.args.name draft in
    let Named : Type 0 = subject_names new ≡ subject_names old ++ c.args.name ∷ [] in
    let Kept : Type 0 = KeepsVertices old new in
    success_gives c.add_subject.result
    (λ (all : (Added × Named) × Kept).
    spawned p is old new c.args.name at draft (line_in p is vs c.vertices-vertices.ensures c.args.name at c.line_shown.ensures)
    (λ d. c.in_ok-draft.ensures ∙ value_in p is vs c.vertices-vertices.ensures at v d c.line_shown.ensures.inside c.index-vertices-line_shown.is)
    c.requires.raised all.0.0 all.0.1 all.1)
    (both_oks (Added × Named) Kept c.add_subject.result (both_oks Added Named c.add_subject.result c.add_subject.ensures.added c.add_subject.ensures.subjects) c.add_subject.ensures.kept)
