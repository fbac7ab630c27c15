use Rattle.std.proofs.Common.{◌≡◌, ℕ, List, subst, sym}
use Rattle.tg_rights.specs.RightSet.{RightSet}
use Rattle.tg_model.specs.declared.edge.Edge.{Edge}
use Rattle.tg_model.specs.Opened.{label_in}
use Rattle.tg_model.specs.Picture.{Holds}
use Rattle.tg_model.proofs.PictureLaws.{row_more, among_more, Holds-push}
use Rattle.tg_model.proofs.graph.picture.add_row.Goals as goal

pub loop-edge-preserved : goal.loop-edge-preserved
loop-edge-preserved c =
    let es = c.loop-edge.edges.items in
    let x = c.edge-item.result in
    let e : Edge = record { from = c.args.from; to = x.0; label = x.1 } in
    let is = c.in_ok-push.ensures.items in
    record {
      all = row_more es c.push.new.self.items c.args.from c.args.listing.now c.loop-edge.edge-index x is c.loop-edge-test.true c.edge-item.is c.loop-edge.invariant.all;
      kept = λ a b q h. subst (λ (l : List Edge). Holds (label_in l) a q b) (sym is) (Holds-push es e a q b (c.loop-edge.invariant.kept a b q h));
      only = λ label all among.
          let P : ℕ × RightSet → Type 0 = λ edge. edge.1 ≡ label c.args.from edge.0 in
          among_more es c.push.new.self.items label e is
          (subst P (sym c.edge-item.is) (all c.loop-edge.edge-index x c.loop-edge-test.true))
          (c.loop-edge.invariant.only label all among);
    }
