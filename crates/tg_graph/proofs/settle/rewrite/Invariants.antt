use Rattle.std.proofs.Common.{take, map}
use Rattle.tg_graph.specs.Kept.{AreWritten, rewritten_at}
use Rattle.tg_graph.proofs.settle.rewrite.Given as goal

abbrev pub invariant-loop-i : goal.invariant-loop-i
invariant-loop-i g l = AreWritten l.fn.spaces l.spaces (map (rewritten_at g.h l.moves.forward.now.words) (take l.i l.remembered.places))
