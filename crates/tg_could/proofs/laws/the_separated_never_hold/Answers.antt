use Rattle.tg_could.specs.Turns.{IsSilent}
use Rattle.tg_could.proofs.SeparationLaws.{parted-never}
use Rattle.tg_could.proofs.laws.the_separated_never_hold.Goals as goal

pub returns : goal.returns
returns c silent g x right y made separated =
    parted-never (IsSilent silent g) x right y g (record { made = made; sides = separated.0; separates = separated.1 })
