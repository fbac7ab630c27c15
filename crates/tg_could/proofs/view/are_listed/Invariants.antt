use Rattle.std.specs.List.{AllWithin}
use Rattle.tg_could.specs.View.{IsListed}
use Rattle.tg_could.proofs.MarkLaws.{OfActor}
use Rattle.tg_could.proofs.view.are_listed.Given as goal

-- who acts before this place is listed
abbrev pub invariant-loop-subject : goal.invariant-loop-subject
invariant-loop-subject l =
    AllWithin (OfActor l.scene.silent.now l.scene.picture.now (IsListed l.actors)) l.scene.picture.now.subjects 0 l.subject-index
