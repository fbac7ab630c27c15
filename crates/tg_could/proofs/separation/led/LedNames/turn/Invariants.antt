use Rattle.tg_could.proofs.SettledLaws.{Turns}
use Rattle.tg_could.proofs.separation.led.LedNames.turn.Given as goal

abbrev pub invariant-loop-subject : goal.invariant-loop-subject
invariant-loop-subject l = Turns l.scene.silent.now l.scene.picture.now l.y l.fn.self l.self l.subject-index
