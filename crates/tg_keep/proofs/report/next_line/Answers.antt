use Rattle.std.proofs.Common.{◌≡◌, ◌+◌, [], take, drop}
use Rattle.tg_keep.specs.Lines.{raw_lines, whole_lines}
use Rattle.tg_keep.proofs.LineLaws.{tail_is}
use Rattle.tg_keep.proofs.Reading.{ends_none, ends_other, in_any_case}
use Rattle.tg_keep.proofs.Reporting.{reads_whole}
use Rattle.tg_keep.proofs.report.next_line.Goals as goal

pub returns-in_err-length-clause-end : goal.returns-in_err-length-clause-end
returns-in_err-length-clause-end c =
    let left = c.args.reader.now.left.now in
    let sum = c.args.reader.now.sum.digits in
    in_any_case c.from_residual.result (whole_lines sum left ≡ []) (ends_none sum left c.in_err-length.ensures.lines)

pub returns-in_err-parts-clause-end : goal.returns-in_err-parts-clause-end
returns-in_err-parts-clause-end c =
    let left = c.args.reader.now.left.now in
    let sum = c.args.reader.now.sum.digits in
    let n = c.in_ok-length.length in
    in_any_case c.from_residual-in_err-parts.result (whole_lines sum left ≡ [])
    (ends_other sum left (take n left) (raw_lines (drop (n + 1) left)) c.in_ok-length.ensures.lines c.in_err-parts.ensures.whole)

pub returns-clause-read : goal.returns-clause-read
returns-clause-read c =
    let left = c.args.reader.now.left.now in
    let n = c.in_ok-length.length in
    reads_whole c.args.reader.now.sum.digits left _ _ _ n c.in_ok-length.ensures.within c.in_ok-length.ensures.lines c.in_ok-parts.ensures.whole
    c.in_ok-parts.ensures.parts.1 c.in_ok-parts.ensures.parts.2 (tail_is (n + 1) left)
