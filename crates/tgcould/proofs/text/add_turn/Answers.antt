use Rattle.std.proofs.Common.{[], ◌∷◌, subst}
use Rattle.tg_text.specs.declared.line.Line.{Line}
use Rattle.tg_text.specs.Grammar.{line_text}
use Rattle.tg_text.specs.Deeds.{deed_line}
use Rattle.tg_plain.specs.Grown.{Appends}
use Rattle.tgcould.proofs.TextLaws.{adds_both}
use Rattle.tgcould.proofs.text.add_turn.Goals as goal

pub returns : goal.returns
returns c =
    adds_both c.args.text.now c.add_line.new.text c.add.new.self (line_text (deed_line c.args.turn.now.0 c.args.turn.now.1)) (10 ∷ [])
    (subst (λ (l : Line). Appends c.args.text.now (line_text l) c.add_line.new.text) c.line_of_deed.ensures c.add_line.ensures) c.add.ensures
