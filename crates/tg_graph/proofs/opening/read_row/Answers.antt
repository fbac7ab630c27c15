use Rattle.std.proofs.Common.{◌∙◌, inl, inr, sym, ap, subst, arith, set, length, ◌≤◌, List}
use Rattle.std.specs.Prelude.{slice_index_or}
use Rattle.std.proofs.lemmas.List.Elements.{All-get_or}
use Rattle.tg_rights.specs.RightSet.{no_rights, union}
use Rattle.tg_model.specs.Opened.{JoinsWorkers, label_in}
use Rattle.tg_graph.proofs.Openings.{row_step}
use Rattle.tg_graph.proofs.opening.read_row.Goals as goal
use Rattle.tg_graph.proofs.opening.read_row.Goals.{then-edge-from, else-edge-from}
use Rattle.tg_model.specs.declared.edge.Edge.{Edge}
use Rattle.std.proofs.lemmas.List.{drop_all}
use Rattle.tg_rights.proofs.RightLaws.{union_none}

pub loop-edge-preserved : goal.loop-edge-preserved
loop-edge-preserved c =
    λ y.
    let edges = c.args.edges.now in
    let edge = c.edge-item.result in
    let row = c.loop-edge.row in
    let k = c.loop-edge.edge-index in
    let asked : JoinsWorkers (length c.args.row.now) edge =
    subst (JoinsWorkers (length c.args.row.now)) (sym c.edge-item.is) (All-get_or (JoinsWorkers (length c.args.row.now)) edges k edge c.loop-edge-test.true c.requires) in
    row_step edges c.args.from k edge row c.if-edge-from.row y c.loop-edge-test.true c.edge-item.is
    (elim c.if-edge-from.branch [
      | then-edge-from w ↦ inl (
        sym w.if-edge-from.true,
        let low = asked.2 in let long = c.loop-edge.auto.row in omega arith,
        w.row-is ∙ w.unite.ensures ∙ ap (λ r. set row edge.to (union (slice_index_or row edge.to no_rights) r)) w.rights.ensures.same,
      )
      | else-edge-from w ↦ inr (λ e. w.if-edge-from.false (sym e), w.row-is)
    ])
    (c.loop-edge.invariant y)

pub returns : goal.returns
returns c =
    λ y.
    let edges = c.args.edges.now in
    let i = c.loop-edge.edge-index in
    let past : length edges ≤ i = c.loop-edge-test.false in
    let own = slice_index_or c.loop-edge.row y no_rights in
    sym (union_none own) ∙ ap (λ (es : List Edge). union own (label_in es c.args.from y)) (sym (drop_all i edges past)) ∙ c.loop-edge.invariant y
