use Rattle.std.proofs.Common.{◌+◌, length, ◌∙◌, ap}
use Rattle.tg_keep.specs.Lines.{first_sum, length_after}
use Rattle.tg_keep.proofs.Reporting.{all_sized, all_tallied, fewer_still, last_tallied, tallies_more}
use Rattle.tg_keep.proofs.Scanning.{all_counted, none_of, reads_shorter, skips_more}
use Rattle.tg_keep.proofs.report.count_lines.Goals as goal

pub loop-line-smaller : goal.loop-line-smaller
loop-line-smaller c = reads_shorter _ _ _ _ _ c.in-Some.ensures.read.reads

pub loop-line-preserved : goal.loop-line-preserved
loop-line-preserved c = record {
  skips = skips_more _ _ _ _ _ _ _ _ c.loop-line.invariant.skips c.in-Some.ensures.read.reads;
  tallies = tallies_more _ _ _ _ _ _ _ _ _ _ c.loop-line.invariant.tallies c.in-Some.ensures.read c.from-batches.ensures;
  fewer = fewer_still _ _ _ _ c.loop-line.invariant.fewer c.from-batches.ensures;
}

pub returns : goal.returns
returns c =
    let none = none_of c.next_line.result _ _ c.next_line.ensures.end c.in_default.not-Some in
    let same = none_of c.next_line.result _ _ c.next_line.ensures.unchanged c.in_default.not-Some in
    record {
      count = all_counted _ _ _ _ _ c.loop-line.invariant.skips none;
      batches = all_tallied _ _ _ _ _ c.loop-line.invariant.tallies none;
      last = last_tallied _ _ _ _ _ c.loop-line.invariant.tallies none;
      left = ap (λ r. length r.left.now + length_after first_sum c.args.file.now) same ∙ all_sized _ _ _ _ c.loop-line.invariant.skips none;
    }
