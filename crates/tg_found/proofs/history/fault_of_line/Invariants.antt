use Rattle.std.proofs.Common.{length}
use Rattle.tg_found.proofs.KeptLaws.{Passes}
use Rattle.tg_found.proofs.history.fault_of_line.Given as goal

abbrev pub invariant-loop-lines : goal.invariant-loop-lines
invariant-loop-lines l = Passes l.file l.lines l.byte l.reader.sum.digits l.reader.left.now

abbrev pub decreases-loop-lines : goal.decreases-loop-lines
decreases-loop-lines l = length l.reader.left.now
