use Rattle.tg_plain.proofs.input.InputText.read_entries.Goals as goal

pub returns : goal.returns
returns g c = λ bytes known. (c.in_ok-history.ensures bytes known, c.in_ok-check.ensures)
