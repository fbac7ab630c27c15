use Rattle.std.specs.List.{flat_map}
use Rattle.tgcould.specs.Texts.{turn_text, wanting_text}
use Rattle.tgcould.proofs.TextLaws.{adds_both}
use Rattle.tgcould.proofs.text.add_wanting.Goals as goal

pub returns : goal.returns
returns c =
    adds_both c.args.text.now c.add_names_more.new.text c.add_turns.new.text (wanting_text c.args.names) (flat_map turn_text c.args.turns.now)
    c.add_names_more.ensures c.add_turns.ensures
