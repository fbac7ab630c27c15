use Rattle.std.proofs.Common.{take}
use Rattle.std.specs.List.{flat_map}
use Rattle.tg_plain.specs.Grown.{Appends}
use Rattle.tgcould.specs.Texts.{turn_text}
use Rattle.tgcould.proofs.text.add_turns.Given as goal

abbrev pub invariant-loop-turn : goal.invariant-loop-turn
invariant-loop-turn l = Appends l.fn.text (flat_map turn_text (take l.turn-index l.turns)) l.text
