use Rattle.std.proofs.Common.{◌∙◌, ap, refl}
use Rattle.tg_keep.proofs.Scanning.{all_counted, all_few, all_left, all_read_on, all_summed, all_within, none_of, reads_on, reads_shorter, skips_more, skips_none}
use Rattle.tg_keep.proofs.scan.skip_lines.Goals as goal

pub loop-text-init : goal.loop-text-init
loop-text-init c = record { skips = skips_none c.args.reader.now.sum.digits c.args.reader.now.left.now; reads = refl }

pub loop-text-preserved : goal.loop-text-preserved
loop-text-preserved c = record {
  skips = skips_more _ _ _ _ _ _ _ _ c.loop-text.invariant.skips c.in-Some.ensures.read;
  reads = reads_on _ _ _ _ _ _ _ _ c.loop-text.invariant.reads c.in-Some.ensures.read;
}

pub loop-text-smaller : goal.loop-text-smaller
loop-text-smaller c = reads_shorter _ _ _ _ _ c.in-Some.ensures.read

pub returns-clause-count : goal.returns-clause-count
returns-clause-count c =
    let none = none_of c.next.result _ _ c.next.ensures.end c.in_default.not-Some in
    all_counted _ _ _ _ _ c.loop-text.invariant.skips none

pub returns-clause-few : goal.returns-clause-few
returns-clause-few c =
    let none = none_of c.next.result _ _ c.next.ensures.end c.in_default.not-Some in
    all_few _ _ _ _ _ c.loop-text.invariant.skips none

pub returns-clause-within : goal.returns-clause-within
returns-clause-within c =
    let none = none_of c.next.result _ _ c.next.ensures.end c.in_default.not-Some in
    all_within _ _ _ _ _ c.loop-text.invariant.skips none

pub returns-clause-left : goal.returns-clause-left
returns-clause-left c =
    let none = none_of c.next.result _ _ c.next.ensures.end c.in_default.not-Some in
    let same = none_of c.next.result _ _ c.next.ensures.unchanged c.in_default.not-Some in
    ap (λ r. r.left.now) same ∙ all_left _ _ _ _ _ c.loop-text.invariant.skips none

pub returns-clause-sum : goal.returns-clause-sum
returns-clause-sum c =
    let none = none_of c.next.result _ _ c.next.ensures.end c.in_default.not-Some in
    let same = none_of c.next.result _ _ c.next.ensures.unchanged c.in_default.not-Some in
    ap (λ r. r.sum.digits) same ∙ all_summed _ _ _ _ _ c.loop-text.invariant.skips none

pub returns-clause-last : goal.returns-clause-last
returns-clause-last c =
    let none = none_of c.next.result _ _ c.next.ensures.end c.in_default.not-Some in
    all_read_on _ _ _ _ _ c.loop-text.invariant.reads none
