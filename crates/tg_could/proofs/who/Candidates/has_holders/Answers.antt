use Rattle.std.proofs.Common.{◌∙◌, sym, eq-eqb}
use Rattle.std.proofs.lemmas.Bool.{false≢true}
use Rattle.std.proofs.lemmas.List.Elements.{AllWithin-more, at_read}
use Rattle.tg_model.specs.declared.edge.Edge.{Edge}
use Rattle.tg_could.specs.Told.{TellsHolder}
use Rattle.tg_could.proofs.who.Candidates.has_holders.Goals as goal

pub loop-edge-preserved : goal.loop-edge-preserved
loop-edge-preserved c =
    let P : Edge → Type 0 = TellsHolder c.args.self.now c.args.right c.args.y in
    AllWithin-more P c.args.edges.now 0 c.loop-edge.edge-index c.loop-edge.invariant
    (at_read c.args.edges.now P c.loop-edge.edge-index c.edge-item.result c.loop-edge-test.true c.edge-item.is
    (λ at_y held. sym c.has-in-loop-edge.ensures ∙ c.both_imply.ensures c.if-not-both_imply.false (eq-eqb c.edge-item.result.to c.args.y at_y) (c.has.ensures ∙ held)))

pub returns-then-not-both_imply : goal.returns-then-not-both_imply
returns-then-not-both_imply c t = absurd (false≢true t)
