use Rattle.std.proofs.Common.{◌+◌, ◌-◌, ℕ, List, length, take, drop, sym, ◌∙◌, ap}
use Rattle.tg_keep.specs.Lines.{raw_lines, sum_in}
use Rattle.tg_keep.specs.Opened.{has_batch}
use Rattle.tg_keep.proofs.LineLaws.{tail_is}
use Rattle.tg_keep.proofs.Scanning.{later_lines, later_none}
use Rattle.tg_keep.proofs.scan.has_later_batch.Goals as goal

pub returns-in-Some : goal.returns-in-Some
returns-in-Some c =
    let bytes = c.args.bytes.now in
    let n = c.in-Some.length in
    c.has_batch.ensures
    ∙ ap (λ (s : List ℕ). has_batch s (raw_lines (take (length bytes - (n + 1)) (drop (n + 1) bytes)))) c.sum_in.ensures
    ∙ ap (λ (l : List ℕ). has_batch (sum_in (take n bytes)) (raw_lines l)) (tail_is (n + 1) bytes)
    ∙ sym (later_lines bytes (take n bytes) (drop (n + 1) bytes) c.in-Some.ensures.lines)

pub returns-in-None : goal.returns-in-None
returns-in-None c = sym (later_none c.args.bytes.now c.in-None.ensures.lines)
