use Rattle.std.proofs.Common.{◌≡◌, ◌∙◌, ap, sym, Some}
use Rattle.std.proofs.lemmas.Result.{IfOk-weaker}
use Rattle.tg_model.specs.declared.value.Value.{Value}
use Rattle.tg_snapshot.specs.Snapshot.{stored_in}
use Rattle.tg_rebuild.proofs.LineLaws.{line_fits, line_in, rise_in, stored_line, value_in}
use Rattle.tg_rebuild.proofs.zero.draft_of_zero.Goals as goal

pub line_of-requires : goal.line_of-requires
line_of-requires g c = rise_in c.args.snapshot.now c.picture.ensures.accepted c.vertices-vertices.result.now c.vertices-vertices.ensures

pub draft_of-requires : goal.draft_of-requires
draft_of-requires g c = line_fits c.args.snapshot.now c.picture.ensures.accepted c.vertices-vertices.result.now c.vertices-vertices.ensures c.in-Some.at c.index-vertices-at.result c.in-Some.ensures.inside c.index-vertices-at.is

pub returns-in-Some : goal.returns-in-Some
returns-in-Some g c =
    let p = c.args.snapshot.now in
    let is = c.picture.ensures.accepted in
    let vs = c.vertices-vertices.result.now in
    let v = c.index-vertices-at.result in
    IfOk-weaker c.draft_of.result (λ (draft : Value). draft ≡ v.value) (λ (draft : Value). stored_in p 0 ≡ Some draft)
    (λ draft same.
    stored_line p is 0 c.in-Some.at v (line_in p is vs c.vertices-vertices.ensures 0 c.in-Some.at c.in-Some.ensures)
    ∙ ap (λ (u : Value). Some u) (sym (same ∙ value_in p is vs c.vertices-vertices.ensures c.in-Some.at v v c.in-Some.ensures.inside c.index-vertices-at.is)))
    c.draft_of.ensures
