use Rattle.std.proofs.Common.{ℕ, List, ◌++◌, subst}
use Rattle.std.specs.Fmt.{decimal}
use Rattle.std.specs.Prelude.{codes}
use Rattle.tg_plain.specs.Grown.{Appends}
use Rattle.tgcould.specs.Texts.{more_names_text}
use Rattle.tgcould.proofs.TextLaws.{adds_both}
use Rattle.tgcould.proofs.text.add_names_more.Goals as goal

pub returns : goal.returns
returns c =
    let number = decimal c.args.names in
    let more = more_names_text c.args.names in
    adds_both c.args.text.now c.add.new.self c.add-2.new.self (codes "could, with ") (number ++ more) c.add.ensures
    (adds_both c.add.new.self c.add_number.new.self c.add-2.new.self number more c.add_number.ensures
    (subst (λ (ys : List ℕ). Appends c.add_number.new.self ys c.add-2.new.self) c.names_more.ensures c.add-2.ensures))
