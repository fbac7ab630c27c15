use Rattle.std.proofs.lemmas.Bool.{false≢true}
use Rattle.tg_could.specs.View.{IsListed}
use Rattle.tg_could.proofs.MarkLaws.{OfActor, one-more}
use Rattle.tg_could.proofs.view.are_listed.Goals as goal

pub loop-subject-preserved : goal.loop-subject-preserved
loop-subject-preserved c =
    one-more (OfActor c.args.scene.now.silent.now c.args.scene.now.picture.now (IsListed c.args.actors.now)) c.subjects-subject-items.result.now c.args.scene.now.picture.now.subjects c.loop-subject.subject-index 0 c.subjects-subject-items.ensures c.loop-subject-test.true
    c.loop-subject.invariant (c.is_listed_or_silent.ensures c.if-not-is_listed_or_silent.false)

pub returns-then-not-is_listed_or_silent : goal.returns-then-not-is_listed_or_silent
returns-then-not-is_listed_or_silent c t = absurd (false≢true t)
