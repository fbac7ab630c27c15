use Rattle.tg_could.specs.Turns.{IsSilent}
use Rattle.tg_could.proofs.ExactLaws.{acts_or, parted_or_brought}
use Rattle.tg_could.proofs.laws.what_is_not_brought_is_parted.Goals as goal

pub returns : goal.returns
returns c silent g x right y made =
    parted_or_brought (IsSilent silent g) right y g x made (acts_or silent g)
