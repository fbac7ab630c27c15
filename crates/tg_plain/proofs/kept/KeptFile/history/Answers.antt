use Rattle.tg_entries.specs.Kept.{IsTextOf}
use Rattle.tg_plain.proofs.PastLaws.{of_file}
use Rattle.tg_plain.proofs.kept.KeptFile.history.Goals as goal

pub returns-in-Ok : goal.returns-in-Ok
returns-in-Ok g c = of_file c.history_in.result c.as_slice.result.now IsTextOf c.history_in.ensures.text c.history_in.ensures.opens
