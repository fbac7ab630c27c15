use Rattle.std.proofs.Common.{length}
use Rattle.tg_found.proofs.KeptLaws.{Gathers}
use Rattle.tg_found.proofs.text.add_lines.Given as goal

abbrev pub invariant-loop-line : goal.invariant-loop-line
invariant-loop-line l = Gathers l.file l.fn.text.items l.text.items l.entries l.reader.sum.digits l.reader.left.now

abbrev pub decreases-loop-line : goal.decreases-loop-line
decreases-loop-line l = length l.reader.left.now
