use Rattle.std.proofs.Common.{◌≡◌, ◌∙◌, ◌++◌, sym, subst, Bool, false, length, ◌==◌, if◌then◌else◌}
use Rattle.std.specs.Prelude.{codes}
use Rattle.std.specs.List.{flat_map}
use Rattle.tg_plain.specs.Grown.{Appends}
use Rattle.tgcould.specs.Texts.{turn_text}
use Rattle.tgcould.proofs.TextLaws.{adds_both}
use Rattle.tgcould.proofs.text.add_could.Goals as goal

pub returns-else-is_empty : goal.returns-else-is_empty
returns-else-is_empty c =
    let turns = flat_map turn_text c.args.turns.now in
    let some : (length c.args.turns.now == 0) ≡ false = sym c.is_empty.ensures ∙ c.if-is_empty.false in
    subst (λ (b : Bool). Appends c.args.text.now (if b then codes "now\n" else codes "could\n" ++ turns) c.add_turns.new.text) (sym some)
    (adds_both c.args.text.now c.add-else-is_empty.new.self c.add_turns.new.text (codes "could\n") turns c.add-else-is_empty.ensures c.add_turns.ensures)
