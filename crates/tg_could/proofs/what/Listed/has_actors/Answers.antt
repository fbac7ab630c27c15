use Rattle.tg_could.specs.Separation.{sides_against}
use Rattle.tg_could.specs.Listed.{ListsActor}
use Rattle.tg_could.proofs.MarkLaws.{OfActor, one-more}
use Rattle.tg_could.proofs.what.Listed.has_actors.Goals as goal

pub loop-subject-preserved : goal.loop-subject-preserved
loop-subject-preserved c =
    one-more (OfActor c.args.scene.now.silent.now c.args.scene.now.picture.now (ListsActor (sides_against c.args.sides.now) c.args.self.now c.args.scene.now.picture.now c.args.x)) c.subjects-subject-items.result.now c.args.scene.now.picture.now.subjects c.loop-subject.subject-index 0 c.subjects-subject-items.ensures c.loop-subject-test.true
    c.loop-subject.invariant (c.has_actor.ensures c.if-not-has_actor.false)
