use Rattle.std.proofs.Common.{◌-◌, List, length, sym, subst}
use Rattle.tg_model.specs.declared.edge.Edge.{Edge}
use Rattle.tg_model.specs.Picture.{AreAmong}
use Rattle.tg_could.proofs.TurnLaws.{edge_stands}
use Rattle.tg_could.proofs.witness.trial.Trial.edge.Goals as goal

pub returns-then-at-edges : goal.returns-then-at-edges
returns-then-at-edges c label first later =
    edge_stands c.args.edges.now c.args.place c.index-edges-at.result label first c.if-at-edges.true c.index-edges-at.is

pub returns-then-later-added : goal.returns-then-later-added
returns-then-later-added c label first later =
    edge_stands c.as_slice-added.result.now (c.args.place - length c.args.edges.now) c.index-added-later.result label
    (subst (λ (es : List Edge). AreAmong es label) (sym c.as_slice-added.ensures.value) later) c.if-later-added.true c.index-added-later.is
