use Rattle.tg_plain.proofs.input.InputText.read_kept.Goals as goal

pub returns : goal.returns
returns g c = let read = c.in_ok-history.ensures in (read.0, read.1, (read.2, c.in_ok-check.ensures))
