use Rattle.std.proofs.Common.{refl}
use Rattle.tg_keep.proofs.Scanning.{none_of, reads_shorter}
use Rattle.tg_kept.proofs.ReadLaws.{lines_added}
use Rattle.tg_kept.proofs.read.add_lines.Goals as goal

pub loop-line-init : goal.loop-line-init
loop-line-init c = refl

pub loop-line-smaller : goal.loop-line-smaller
loop-line-smaller c = reads_shorter _ _ _ _ _ c.in-Some.ensures.read

pub returns : goal.returns
returns c =
    let none = none_of c.next.result _ _ c.next.ensures.end c.in_default.not-Some in
    lines_added _ _ _ _ c.loop-line.invariant none
