use Rattle.std.proofs.Common.{◌≤◌, length}
use Rattle.tgaudit.proofs.KeptLaws.{Walks}
use Rattle.tgaudit.proofs.kept.audit_rest.Given as goal

abbrev pub invariant-loop-text : goal.invariant-loop-text
invariant-loop-text g l = record {
  walks : Walks l.file l.fn.audit l.fn.reader.sum.digits l.fn.reader.left.now l.lines l.byte l.entries l.audit l.reader.sum.digits l.reader.left.now;
  fewer : l.entries ≤ l.lines;
}

abbrev pub decreases-loop-text : goal.decreases-loop-text
decreases-loop-text g l = length l.reader.left.now
