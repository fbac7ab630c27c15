use Rattle.std.proofs.Common.{◌∙◌, refl, sym, ap₂}
use Rattle.tg_rights.specs.RightSet.{minus}
use Rattle.tg_model.proofs.RowLaws.{labelled, unlabelled}
use Rattle.tg_past.proofs.ChangeLaws.{edge_added, edge_lost}
use Rattle.tg_past.proofs.edges.LastEdges.add.Goals as goal

pub returns-in_ok-push-in-Some : goal.returns-in_ok-push-in-Some
returns-in_ok-push-in-Some c =
    edge_added c.args.self.now (record { edges = c.push.new.self; lost = c.args.self.now.lost }) c.args.edge c.in-Some.label c.in_ok-push-in-Some.ensures.items refl
    ((labelled c.minus-left.result c.in-Some.label (sym c.new.ensures ∙ c.in-Some.is)).0 ∙ c.minus-left.ensures ∙ ap₂ minus c.rights.ensures.same c.over.ensures)

pub returns-in-None : goal.returns-in-None
returns-in-None c =
    edge_lost c.args.self.now c.args.self.now c.args.edge refl refl
    (sym (c.minus-left.ensures ∙ ap₂ minus c.rights.ensures.same c.over.ensures) ∙ unlabelled c.minus-left.result (sym c.new.ensures ∙ c.in-None.is))
