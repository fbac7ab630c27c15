use Rattle.std.proofs.Common.{◌≡◌, ◌≤◌, length}
use Rattle.tg_keep.specs.Lines.{raw_lines}
use Rattle.tg_keep.specs.Opened.{has_batch}
use Rattle.tg_keep.proofs.scan.has_batch.Given as goal

abbrev pub invariant-loop-length : goal.invariant-loop-length
invariant-loop-length l = record {
  same : has_batch l.fn.before (raw_lines l.fn.bytes) ≡ has_batch l.before (raw_lines l.left);
  few : length l.left ≤ length l.fn.bytes;
}

abbrev pub decreases-loop-length : goal.decreases-loop-length
decreases-loop-length l = length l.left
