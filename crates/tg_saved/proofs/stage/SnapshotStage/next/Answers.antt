use Rattle.std.proofs.Common.{subst}
use Rattle.tg_saved.specs.Read.{HasReadSnapshot}
use Rattle.tg_saved.proofs.stage.SnapshotStage.next.Goals as goal

pub returns-in-Lines : goal.returns-in-Lines
returns-in-Lines g c = λ text was. c.next_line.ensures text (subst (HasReadSnapshot text) c.in-Lines.is was)
