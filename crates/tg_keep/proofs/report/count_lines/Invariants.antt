use Rattle.std.proofs.Common.{◌≤◌, length}
use Rattle.tg_keep.specs.Lines.{first_sum}
use Rattle.tg_keep.proofs.Reporting.{Tallies}
use Rattle.tg_keep.proofs.Scanning.{Skips}
use Rattle.tg_keep.proofs.report.count_lines.Given as goal

abbrev pub invariant-loop-line : goal.invariant-loop-line
invariant-loop-line l = record {
  skips : Skips first_sum l.fn.file l.count l.reader.sum.digits l.reader.left.now;
  tallies : Tallies l.fn.file l.batches l.last l.reader.sum.digits l.reader.left.now;
  fewer : l.batches ≤ l.count;
}

abbrev pub decreases-loop-line : goal.decreases-loop-line
decreases-loop-line l = length l.reader.left.now
