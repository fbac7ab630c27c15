use Rattle.tg_could.proofs.ExactLaws.{brought_could}
use Rattle.tg_could.proofs.laws.what_is_brought_could_come_about.Goals as goal

pub returns : goal.returns
returns c silent g x right y means brought =
    brought_could silent g x right y means.sound means.long means.differ means.help brought
