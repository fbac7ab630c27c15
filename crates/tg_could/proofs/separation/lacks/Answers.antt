use Rattle.std.proofs.Common.{ℕ, ◌∙◌, sym, subst, arith, eq-eqb}
use Rattle.std.proofs.lemmas.Bool.{eqb-true}
use Rattle.std.proofs.lemmas.List.Elements.{AllWithin-more, at_read}
use Rattle.tg_model.specs.declared.edge.Edge.{Edge}
use Rattle.tg_model.specs.Opened.{label_in}
use Rattle.tg_model.specs.Picture.{Holds}
use Rattle.tg_could.proofs.TurnLaws.{Holds-member}
use Rattle.tg_could.proofs.MarkLaws.{IsNot, none_holds}
use Rattle.tg_could.proofs.separation.lacks.Goals as goal

pub loop-edge-preserved : goal.loop-edge-preserved
loop-edge-preserved c =
    let P : Edge → Type 0 = IsNot c.args.question.x c.args.question.right c.args.question.y in
    let e = c.edge-item.result in
    AllWithin-more P c.args.edges.now 0 c.loop-edge.edge-index c.loop-edge.invariant
    (at_read c.args.edges.now P c.loop-edge.edge-index e c.loop-edge-test.true c.edge-item.is
    (λ at_x at_y is. c.not_all.ensures.not_all c.if-not-not_all.false (eq-eqb e.from c.args.question.x at_x) (eq-eqb e.to c.args.question.y at_y) (c.has.ensures ∙ is)))

pub returns-clause-lacks : goal.returns-clause-lacks
returns-clause-lacks c t = none_holds c.args.question.x c.args.question.right c.args.question.y c.args.edges.now (λ k d inside. c.loop-edge.invariant k d (omega arith) (omega arith))

pub returns-then-not-not_all-clause-held : goal.returns-then-not-not_all-clause-held
returns-then-not-not_all-clause-held c same =
    let all = c.not_all.ensures.all c.if-not-not_all.true in
    let es = c.args.edges.now in
    let e = c.edge-item.result in
    let there = Holds-member es c.loop-edge.edge-index e c.loop-edge-test.true c.edge-item.is c.args.question.right (sym c.has.ensures ∙ all.2) in
    subst (λ (v : ℕ). Holds (label_in es) v c.args.question.right c.args.question.y) (eqb-true e.from c.args.question.x all.0)
    (subst (λ (v : ℕ). Holds (label_in es) e.from c.args.question.right v) (eqb-true e.to c.args.question.y all.1) there)
