use Rattle.std.proofs.Common.{refl}
use Rattle.tg_keep.proofs.Scanning.{none_of, reads_shorter}
use Rattle.tg_found.proofs.KeptLaws.{all_passed, next_at, passes_more, passes_none}
use Rattle.tg_found.proofs.history.fault_of_line.Goals as goal

pub loop-lines-init : goal.loop-lines-init
loop-lines-init c = passes_none _ _ _ c.new-reader.ensures.left c.new-reader.ensures.sum

pub loop-lines-smaller : goal.loop-lines-smaller
loop-lines-smaller c = reads_shorter _ _ _ _ _ c.in-Some.ensures.read

pub loop-lines-preserved : goal.loop-lines-preserved
loop-lines-preserved c = passes_more _ _ _ _ _ _ _ _ _ c.loop-lines.invariant c.in-Some.ensures.read refl

pub returns-then-lines-number : goal.returns-then-lines-number
returns-then-lines-number c = next_at _ _ _ _ _ _ _ _ c.loop-lines.invariant c.in-Some.ensures.read

pub returns : goal.returns
returns c = all_passed _ _ _ _ _ c.loop-lines.invariant (none_of c.next.result _ _ c.next.ensures.end c.in_default.not-Some)
