use Rattle.std.proofs.Common.{◌≡◌, take}
use Rattle.std.specs.List.{fold}
use Rattle.tg_keep.specs.Sums.{with_byte}
use Rattle.tg_keep.proofs.sum.with_bytes.Given as goal

abbrev pub invariant-loop-byte : goal.invariant-loop-byte
invariant-loop-byte l = l.register ≡ fold with_byte l.fn.register (take l.byte-index l.bytes)
