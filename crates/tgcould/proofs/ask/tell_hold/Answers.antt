use Rattle.tgcould.proofs.ask.tell_hold.Goals as goal

pub returns-in-Ok-clause-text : goal.returns-in-Ok-clause-text
returns-in-Ok-clause-text c = λ full. (c.in-Ok.answer, c.in-Ok.ensures, c.tell_answer.ensures.text)

pub returns-in-Ok-clause-never : goal.returns-in-Ok-clause-never
returns-in-Ok-clause-never c told =
    c.tell_answer.ensures.never told c.args.scene.now.picture.now c.args.scene.now.silent.now c.args.question.x c.args.question.right c.args.question.y c.in-Ok.ensures
