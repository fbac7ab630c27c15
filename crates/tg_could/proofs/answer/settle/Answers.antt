use Rattle.std.proofs.Common.{Bool, subst}
use Rattle.tg_could.specs.Answered.{IsDecided}
use Rattle.tg_could.proofs.answer.settle.Goals as goal

pub returns-then-parts-clause-never : goal.returns-then-parts-clause-never
returns-then-parts-clause-never c g picture = c.parts.ensures c.if-parts.true g picture

pub returns-then-branch-clause-told : goal.returns-then-branch-clause-told
returns-then-branch-clause-told c g picture = λ near_x near_y.
    subst (λ (b : Bool). IsDecided c.args.scene.now.silent.now g c.args.question.x c.args.question.right c.args.question.y b) c.if-branch.true (c.in_ok-may_come_about.ensures g picture)

pub returns-clause-never : goal.returns-clause-never
returns-clause-never c g picture =
    subst (λ (b : Bool). IsDecided c.args.scene.now.silent.now g c.args.question.x c.args.question.right c.args.question.y b) c.if-branch.false (c.in_ok-may_come_about.ensures g picture)

pub returns-in-Some-clause-told : goal.returns-in-Some-clause-told
returns-in-Some-clause-told c g picture =
    let told = c.in_ok-answer.ensures g picture in
    rw c.in-Some.is at told
