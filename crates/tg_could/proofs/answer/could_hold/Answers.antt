use Rattle.tg_could.proofs.answer.could_hold.Goals as goal

pub returns-in-Ok-Some : goal.returns-in-Ok-Some
returns-in-Ok-Some c g picture =
    let told = c.in-Ok-Some.ensures.told g picture in
    rw c.in-Ok-Some.field-0-is at told

pub returns-in-Ok-None : goal.returns-in-Ok-None
returns-in-Ok-None c g picture =
    let never = c.in-Ok-None.ensures.never g picture in
    rw c.in-Ok-None.field-0-is at never
