use Rattle.std.proofs.Common.{List, ◌∙◌, ap, subst}
use Rattle.tg_rights.specs.RightSet.{has}
use Rattle.tg_model.specs.declared.edge.Edge.{Edge}
use Rattle.tg_model.specs.Opened.{label_in}
use Rattle.tg_model.specs.Picture.{Holds}
use Rattle.tg_could.proofs.MarkLaws.{pictured-same, pictured-alone}
use Rattle.tg_could.proofs.SettledLaws.{held_turns, closed_never, helped, decided}
use Rattle.tg_could.proofs.separation.led.may_come_about.Goals as goal

pub returns-then-question : goal.returns-then-question
returns-then-question c g picture =
    let x = c.args.question.x in
    let r = c.args.question.right in
    let y = c.args.question.y in
    pictured-same c.args.scene.now.silent.now c.args.scene.now.picture.now g picture x r y c.if-question.true
    (subst (λ (es : List Edge). ¬ Holds (label_in es) x r y) c.edges.ensures (c.lacks.ensures.lacks c.if-not-lacks.false))

pub returns-then-is_alone : goal.returns-then-is_alone
returns-then-is_alone c g picture =
    let x = c.args.question.x in
    let r = c.args.question.right in
    let y = c.args.question.y in
    pictured-alone c.args.scene.now.silent.now c.args.scene.now.picture.now g picture x r y (c.is_alone.ensures.many c.if-is_alone.true) (c.is_alone.ensures.alone c.if-is_alone.true)
    (subst (λ (es : List Edge). ¬ Holds (label_in es) x r y) c.edges.ensures (c.lacks.ensures.lacks c.if-not-lacks.false))

pub returns : goal.returns
returns c g picture =
    let silent = c.args.scene.now.silent.now in
    let p = c.args.scene.now.picture.now in
    let x = c.args.question.x in
    let r = c.args.question.right in
    let y = c.args.question.y in
    let names = c.in_ok-led.led in
    let lacks = subst (λ (es : List Edge). ¬ Holds (label_in es) x r y) c.edges.ensures (c.lacks.ensures.lacks c.if-not-lacks.false) in
    decided silent p g picture x r y names c.lead_to.result
    (λ found. c.lead_to.ensures.brought found r y g picture (c.in_ok-led.ensures.led g picture))
    (λ none. closed_never silent p g picture x r y names c.in_ok-led.ensures.edges c.in_ok-led.ensures.actors lacks (c.lead_to.ensures.not_taken none) (c.lead_to.ensures.not_given none))
    c.if-question.false
    (helped silent p g picture x r y names (c.is_alone.ensures.helped c.if-is_alone.false))

pub returns-then-not-lacks : goal.returns-then-not-lacks
returns-then-not-lacks c g picture =
    let x = c.args.question.x in
    let r = c.args.question.right in
    let y = c.args.question.y in
    held_turns c.args.scene.now.silent.now g x r y
    (ap (λ m. has m r) (picture.labels x y) ∙ subst (λ (es : List Edge). Holds (label_in es) x r y) c.edges.ensures (c.lacks.ensures.held c.if-not-lacks.true))
