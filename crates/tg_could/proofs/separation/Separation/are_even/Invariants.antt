use Rattle.std.specs.List.{AllWithin}
use Rattle.tg_could.specs.Separation.{sides_of, IsEven}
use Rattle.tg_could.proofs.MarkLaws.{OfActor}
use Rattle.tg_could.proofs.separation.Separation.are_even.Given as goal

-- who acts before this place is even
abbrev pub invariant-loop-subject : goal.invariant-loop-subject
invariant-loop-subject l =
    AllWithin (OfActor l.scene.silent.now l.scene.picture.now (IsEven (sides_of l.self) l.scene.picture.now l.question.x l.question.y)) l.scene.picture.now.subjects 0 l.subject-index
