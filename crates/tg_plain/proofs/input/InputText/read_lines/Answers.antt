use Rattle.tg_plain.proofs.input.InputText.read_lines.Goals as goal

pub returns : goal.returns
returns g c = λ bytes known. (c.in_ok-script.ensures.options, c.in_ok-script.ensures.lines bytes known, c.in_ok-script.ensures.numbered)
