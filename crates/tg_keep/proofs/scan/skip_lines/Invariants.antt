use Rattle.std.proofs.Common.{length}
use Rattle.tg_keep.proofs.Scanning.{ReadsOn, Skips}
use Rattle.tg_keep.proofs.scan.skip_lines.Given as goal

abbrev pub invariant-loop-text : goal.invariant-loop-text
invariant-loop-text l = record {
  skips : Skips l.fn.reader.sum.digits l.fn.reader.left.now l.count l.reader.sum.digits l.reader.left.now;
  reads : ReadsOn l.fn.reader.sum.digits l.fn.reader.left.now l.last l.reader.sum.digits l.reader.left.now;
}

abbrev pub decreases-loop-text : goal.decreases-loop-text
decreases-loop-text l = length l.reader.left.now
