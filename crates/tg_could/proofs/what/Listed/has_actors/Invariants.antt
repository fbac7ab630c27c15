use Rattle.std.specs.List.{AllWithin}
use Rattle.tg_could.specs.Separation.{sides_against}
use Rattle.tg_could.specs.Listed.{ListsActor}
use Rattle.tg_could.proofs.MarkLaws.{OfActor}
use Rattle.tg_could.proofs.what.Listed.has_actors.Given as goal

-- who acts before this place is where it has to be
abbrev pub invariant-loop-subject : goal.invariant-loop-subject
invariant-loop-subject l =
    AllWithin (OfActor l.scene.silent.now l.scene.picture.now (ListsActor (sides_against l.sides) l.self l.scene.picture.now l.x)) l.scene.picture.now.subjects 0 l.subject-index
