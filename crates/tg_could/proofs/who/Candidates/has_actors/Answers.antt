use Rattle.tg_could.specs.Separation.{sides_of}
use Rattle.tg_could.specs.Told.{TellsActor}
use Rattle.tg_could.proofs.MarkLaws.{OfActor, one-more}
use Rattle.tg_could.proofs.who.Candidates.has_actors.Goals as goal

pub loop-subject-preserved : goal.loop-subject-preserved
loop-subject-preserved c =
    one-more (OfActor c.args.scene.now.silent.now c.args.scene.now.picture.now (TellsActor (sides_of c.args.sides.now) c.args.self.now c.args.scene.now.picture.now c.args.y)) c.subjects-subject-items.result.now c.args.scene.now.picture.now.subjects c.loop-subject.subject-index 0 c.subjects-subject-items.ensures c.loop-subject-test.true
    c.loop-subject.invariant (c.has_actor.ensures c.if-not-has_actor.false)
