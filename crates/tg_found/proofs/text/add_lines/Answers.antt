use Rattle.tg_keep.proofs.Scanning.{none_of, reads_shorter}
use Rattle.tg_found.proofs.KeptLaws.{all_counted, all_gathered, gathers_more, gathers_none}
use Rattle.tg_found.proofs.text.add_lines.Goals as goal

pub loop-line-init : goal.loop-line-init
loop-line-init c = gathers_none _ _ _ _ c.after_first-reader.ensures.texts c.after_first-reader.ensures.fits

pub loop-line-smaller : goal.loop-line-smaller
loop-line-smaller c = reads_shorter _ _ _ _ _ c.in-Some.ensures.read

pub loop-line-preserved : goal.loop-line-preserved
loop-line-preserved c =
    gathers_more _ _ _ _ _ _ _ _ _ _ _ _ c.loop-line.invariant c.in-Some.ensures.read c.in_ok-add_line.ensures c.begins_with_digit.ensures c.from-entries.ensures

pub returns-clause-added : goal.returns-clause-added
returns-clause-added c =
    let none = none_of c.next.result _ _ c.next.ensures.end c.in_default.not-Some in
    all_gathered _ _ _ _ _ _ c.loop-line.invariant none

pub returns-clause-entries : goal.returns-clause-entries
returns-clause-entries c =
    let none = none_of c.next.result _ _ c.next.ensures.end c.in_default.not-Some in
    all_counted _ _ _ _ _ _ c.loop-line.invariant none
