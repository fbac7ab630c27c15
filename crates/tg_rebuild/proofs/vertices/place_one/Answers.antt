use Rattle.std.proofs.Common.{◌∙◌, ap, length, arith}
use Rattle.std.proofs.lemmas.Bool.{false≢true}
use Rattle.tg_rows.proofs.Results.{both_oks, success_gives}
use Rattle.tg_graph.specs.Heap.{KeepsPlaces}
use Rattle.tg_rebuild.specs.Inner.Bare.{AddsBare}
use Rattle.tg_rebuild.specs.Inner.Raising.{IsPlaced}
use Rattle.tg_rebuild.proofs.EdgeLaws.{kept_self}
use Rattle.tg_rebuild.proofs.LineLaws.{line_fits, line_here, value_in}
use Rattle.tg_rebuild.proofs.RaisingLaws.{made_more, made_there, unmade}
use Rattle.tg_rebuild.proofs.vertices.place_one.Goals as goal

pub returns-in-Some-clause-placed : goal.returns-in-Some-clause-placed
returns-in-Some-clause-placed g c = record {
  made = made_there c.args.snapshot.now c.picture.ensures.accepted c.args.at c.args.heap.now c.requires.made;
  kept = kept_self c.args.heap.now;
}

pub returns-then-vertex-eq0-clause-placed : goal.returns-then-vertex-eq0-clause-placed
returns-then-vertex-eq0-clause-placed g c = record {
  made = made_there c.args.snapshot.now c.picture.ensures.accepted c.args.at c.args.heap.now c.requires.made;
  kept = kept_self c.args.heap.now;
}

pub draft_of-requires : goal.draft_of-requires
draft_of-requires g c =
    let within = ap length c.vertices-vertices.ensures in
    line_fits c.args.snapshot.now c.picture.ensures.accepted c.vertices-vertices.result.now c.vertices-vertices.ensures c.args.at c.index-vertices-at.result (omega (arith, c.requires.inside, within)) c.index-vertices-at.is

pub add_object-requires-clause-fresh : goal.add_object-requires-clause-fresh
add_object-requires-clause-fresh g c =
    let p = c.args.snapshot.now in
    let is = c.picture.ensures.accepted in
    let within = ap length c.vertices-vertices.ensures in
    let v = c.index-vertices-at.result in
    unmade p is c.args.at c.args.heap.now c.requires.made v.name
    (line_here p is c.vertices-vertices.result.now c.vertices-vertices.ensures c.args.at v (omega (arith, c.requires.inside, within)) c.index-vertices-at.is)
    c.if-vertex-eq0.false (λ active. false≢true (c.in_default.ensures.active.1 active))

pub returns-clause-placed : goal.returns-clause-placed
returns-clause-placed g c =
    let p = c.args.snapshot.now in
    let is = c.picture.ensures.accepted in
    let vs = c.vertices-vertices.result.now in
    let within = ap length c.vertices-vertices.ensures in
    let at = c.args.at in
    let v = c.index-vertices-at.result in
    let draft = c.in_ok-draft.draft in
    let old = c.args.heap.now in
    let new = c.add_object.new.heap in
    let Added : Type 0 = AddsBare old new v.name draft in
    let Kept : Type 0 = KeepsPlaces old new in
    success_gives {A = Added × Kept} {B = IsPlaced p at old new} c.add_object.result
    (λ both. record {
      made = made_more p is at old c.requires.made new v.name draft
          (line_here p is vs c.vertices-vertices.ensures at v (omega (arith, c.requires.inside, within)) c.index-vertices-at.is)
          (λ d. c.in_ok-draft.ensures ∙ value_in p is vs c.vertices-vertices.ensures at v d (omega (arith, c.requires.inside, within)) c.index-vertices-at.is)
          both.0 both.1.subjects;
      kept = both.1;
    })
    (both_oks Added Kept c.add_object.result c.add_object.ensures.added c.add_object.ensures.kept)
