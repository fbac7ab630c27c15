use Rattle.std.specs.List.{AllWithin}
use Rattle.tg_could.specs.Separation.{sides_of}
use Rattle.tg_could.specs.Told.{TellsActor}
use Rattle.tg_could.proofs.MarkLaws.{OfActor}
use Rattle.tg_could.proofs.who.Candidates.has_actors.Given as goal

-- who acts before this place is told where it is in the sets
abbrev pub invariant-loop-subject : goal.invariant-loop-subject
invariant-loop-subject l =
    AllWithin (OfActor l.scene.silent.now l.scene.picture.now (TellsActor (sides_of l.sides) l.self l.scene.picture.now l.y)) l.scene.picture.now.subjects 0 l.subject-index
