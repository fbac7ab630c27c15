use Rattle.tg_could.specs.Separation.{IsEven, sides_of}
use Rattle.tg_could.proofs.MarkLaws.{OfActor, one-more}
use Rattle.tg_could.proofs.separation.Separation.are_even.Goals as goal

pub loop-subject-preserved : goal.loop-subject-preserved
loop-subject-preserved c =
    one-more (OfActor c.args.scene.now.silent.now c.args.scene.now.picture.now (IsEven (sides_of c.args.self.now) c.args.scene.now.picture.now c.args.question.x c.args.question.y)) c.subjects-subject-items.result.now c.args.scene.now.picture.now.subjects c.loop-subject.subject-index 0 c.subjects-subject-items.ensures c.loop-subject-test.true
    c.loop-subject.invariant (c.is_even.ensures c.if-not-is_even.false)
