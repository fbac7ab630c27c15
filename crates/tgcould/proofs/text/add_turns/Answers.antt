use Rattle.tgcould.specs.Texts.{turn_text}
use Rattle.tgcould.proofs.TextLaws.{adds_next}
use Rattle.tgcould.proofs.text.add_turns.Goals as goal

pub loop-turn-preserved : goal.loop-turn-preserved
loop-turn-preserved c =
    adds_next turn_text c.args.turns.now c.loop-turn.turn-index c.turn-item.result c.args.text.now c.loop-turn.text c.add_turn.new.text
    c.loop-turn-test.true c.turn-item.is c.loop-turn.invariant c.add_turn.ensures
