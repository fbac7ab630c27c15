use Rattle.std.proofs.Common.{◌≡◌, take, drop}
use Rattle.tg_keep.specs.Lines.{lines_from, raw_lines}
use Rattle.tg_keep.proofs.reader.first_length.Given as goal

abbrev pub invariant-loop-length : goal.invariant-loop-length
invariant-loop-length l = raw_lines l.bytes ≡ lines_from (take l.length l.bytes) (drop l.length l.bytes)
