use Rattle.std.proofs.Common.{◌≡◌, ◌∙◌, ◌-◌, ap, arith, length, take}
use Rattle.tg_keep.specs.Lines.{is_marking}
use Rattle.tg_kept.proofs.MarkingLaws.{cut_end, marking_end, no_bad_mark}
use Rattle.tg_kept.proofs.parts.close_entries.Goals as goal

pub returns-clause-unmarked : goal.returns-clause-unmarked
returns-clause-unmarked g c =
    let text = c.deref.result.now in
    let n : c.saturating_sub.result ≡ length text - 1 = omega (arith, c.saturating_sub.ensures, c.len-2.ensures, c.deref.ensures.len) in
    no_bad_mark c.close.result (take c.saturating_sub.result text) c.close.ensures.bad (ap is_marking (cut_end c.saturating_sub.result text n) ∙ marking_end c.len.result text (c.deref.ensures.value ∙ c.in_ok-line.ensures))
