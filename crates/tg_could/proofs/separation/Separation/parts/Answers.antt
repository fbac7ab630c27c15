use Rattle.std.proofs.Common.{List, subst}
use Rattle.tg_model.specs.declared.edge.Edge.{Edge}
use Rattle.tg_model.specs.Opened.{label_in}
use Rattle.tg_model.specs.Picture.{Holds}
use Rattle.tg_could.specs.Separation.{Parts, sides_of}
use Rattle.tg_could.proofs.MarkLaws.{pictured-never, pictured-same, pictured-alone}
use Rattle.tg_could.proofs.separation.Separation.parts.Goals as goal

pub returns-then-question : goal.returns-then-question
returns-then-question c t g picture =
    let x = c.args.question.x in
    let r = c.args.question.right in
    let y = c.args.question.y in
    pictured-same c.args.scene.now.silent.now c.args.scene.now.picture.now g picture x r y c.if-question.true
    (subst (λ (es : List Edge). ¬ Holds (label_in es) x r y) c.edges.ensures (c.lacks.ensures.lacks t))

pub returns-then-is_alone : goal.returns-then-is_alone
returns-then-is_alone c t g picture =
    let x = c.args.question.x in
    let r = c.args.question.right in
    let y = c.args.question.y in
    pictured-alone c.args.scene.now.silent.now c.args.scene.now.picture.now g picture x r y (c.is_alone.ensures.many c.if-is_alone.true) (c.is_alone.ensures.alone c.if-is_alone.true)
    (subst (λ (es : List Edge). ¬ Holds (label_in es) x r y) c.edges-then-is_alone.ensures (c.lacks-then-is_alone.ensures.lacks t))

pub returns : goal.returns
returns c t g picture =
    let s = sides_of c.args.self.now in
    pictured-never c.args.scene.now.silent.now c.args.scene.now.picture.now g picture s c.args.question.x c.args.question.right c.args.question.y (c.are_even.ensures c.if-not-are_even.false)
    (subst (λ (es : List Edge). Parts s c.args.question.x c.args.question.right c.args.question.y (label_in es)) c.edges-2.ensures (c.part.ensures t))
