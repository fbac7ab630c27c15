use Rattle.std.proofs.Common.{◌≡◌, ◌++◌, length}
use Rattle.std.specs.List.{flat_map}
use Rattle.tg_keep.specs.Lines.{texts_after}
use Rattle.tg_kept.specs.Texts.{ended_line}
use Rattle.tg_kept.proofs.read.add_lines.Given as goal

abbrev pub invariant-loop-line : goal.invariant-loop-line
invariant-loop-line l =
    l.text.items ++ flat_map ended_line (texts_after l.reader.sum.digits l.reader.left.now)
    ≡ l.fn.text.items ++ flat_map ended_line (texts_after l.fn.reader.sum.digits l.fn.reader.left.now)

abbrev pub decreases-loop-line : goal.decreases-loop-line
decreases-loop-line l = length l.reader.left.now
