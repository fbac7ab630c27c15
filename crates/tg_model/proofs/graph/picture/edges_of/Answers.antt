use Rattle.std.proofs.Common.{ℕ, ◌≡◌, List, length, ap, ⊎_elim, subst, sym, ◌∙◌, arith}
use Rattle.std.specs.List.{All}
use Rattle.std.proofs.lemmas.Bool.{cases_lt}
use Rattle.tg_rights.specs.RightSet.{RightSet}
use Rattle.tg_model.specs.Plain.{PlainGraph, graph_of, IsPlain}
use Rattle.tg_model.specs.Opened.{label_in}
use Rattle.tg_model.specs.Picture.{Holds}
use Rattle.tg_model.proofs.PictureLaws.{row_stands, listed_labels}
use Rattle.tg_model.proofs.graph.picture.edges_of.Goals as goal

pub loop-from-preserved : goal.loop-from-preserved
loop-from-preserved c =
    let p = c.args.graph.now in
    let from = c.loop-from.from in
    let es = c.add_row.new.edges.items in
    let row = c.as_slice.result.now in
    let is = c.as_slice.ensures ∙ c.in_ok-row.ensures in
    record {
      all = λ a b q below h. ⊎_elim
          (λ before. c.in_ok-add_row.ensures.kept a b q (c.loop-from.invariant.all a b q before h))
          (λ past.
          let here : a ≡ from = omega (arith, below, past) in
          subst (λ (k : ℕ). Holds (label_in es) k q b) (sym here)
          (row_stands p es from (subst IsPlain c.graph.view_is c.graph.invariant) row is c.in_ok-add_row.ensures.all b q
          (subst (λ (k : ℕ). Holds (graph_of p).label k q b) here h)))
          (cases_lt a from);
      only = c.in_ok-add_row.ensures.only (graph_of p).label
          (subst (λ (l : List (ℕ × RightSet)). All (λ edge. edge.1 ≡ (graph_of p).label from edge.0) l) (sym is) (listed_labels (graph_of p).label (graph_of p).made from))
          c.loop-from.invariant.only;
    }

pub returns : goal.returns
returns c = record {
  all = λ a b q below h. c.loop-from.invariant.all a b q (omega (arith, below, c.loop-from-test.false, c.len-from-end.ensures, ap (λ (p : PlainGraph). length p.values) c.graph.view_is)) h;
  only = c.loop-from.invariant.only;
}
