use Rattle.std.proofs.Common.{ℕ, Some, None, subst, sym}
use Rattle.tg_plain.specs.Lines.{all_lines}
use Rattle.tg_plain.specs.Inner.Reading.{AddsLine}
use Rattle.tg_plain.proofs.ReadingLaws.{IsCounted, counts_more, err_is, front_all, keeps_then, lines_same, may_add, numbered_same, on_err, on_ok, reads_added, reads_short, still_open}
use Rattle.tg_plain.proofs.script.Script.add_lines.Goals as goal

pub returns-in_err-line-clause-lines : goal.returns-in_err-line-clause-lines
returns-in_err-line-clause-lines g c = λ bytes known.
    let i = c.lines.invariant.bytes bytes known in
    let n = c.in_err-line.ensures.bytes i.0 i.1 in
    rw (err_is c.from_residual.result _ c.from_residual.ensures.1) (n.0, front_all c.lines.self.workers c.lines.reading bytes i.0 (all_lines c.lines.self) (Some c.in_err-line.field-0.0) n.0 i.2 n.2)

pub returns-then-is_err-clause-lines : goal.returns-then-is_err-clause-lines
returns-then-is_err-clause-lines g c = λ bytes known.
    let i = c.lines.invariant.bytes bytes known in
    (i.0, reads_short c.lines.self c.add.new.self c.lines.reading bytes i.0 c.add.ensures.kept (lines_same c.lines.self c.add.new.self (on_err c.add.result (sym c.if-is_err.ensures.value) c.add.ensures.err)) i.2)

pub returns-then-is_err-clause-numbered : goal.returns-then-is_err-clause-numbered
returns-then-is_err-clause-numbered g c =
    numbered_same c.lines.self c.add.new.self (on_err c.add.result (sym c.if-is_err.ensures.value) c.add.ensures.err) c.lines.invariant.counted.numbered

pub lines-preserved : goal.lines-preserved
lines-preserved g c =
    let s = c.lines.self in
    let t = c.add.new.self in
    let l = c.in-Some.line in
    let follows = rw c.in-Some.is at c.in_ok-line.ensures.follows in
    let adds = on_ok c.add.result (sym c.if-is_err.ensures.value) c.add.ensures.line in
    let may = may_add s l c.lines.reading.workers c.lines.reading.opening follows.stands c.lines.invariant.opening in
    record {
      counted =
          subst (IsCounted t) (sym follows.count)
          (counts_more s t c.lines.reading.count l may (subst (λ (n : ℕ). AddsLine s n l t) follows.count adds) c.lines.invariant.counted);
      kept = keeps_then c.args.self.now s t c.lines.invariant.kept c.add.ensures.kept;
      opening = still_open s t c.next.new.self.count l c.lines.reading.opening c.next.new.self.opening follows.opening adds c.lines.invariant.opening;
      bytes = λ bytes known.
          let i = c.lines.invariant.bytes bytes known in
          let n = (rw c.in-Some.is at c.in_ok-line.ensures.bytes) i.0 i.1 in
          (n.0, n.1, reads_added s t c.lines.reading c.next.new.self bytes i.0 n.0 c.next.new.self.count l c.add.ensures.kept.workers may adds i.2 n.2);
    }

pub returns-clause-lines : goal.returns-clause-lines
returns-clause-lines g c = λ bytes known.
    let i = c.lines.invariant.bytes bytes known in
    let n = (rw c.in_default.is at c.in_ok-line.ensures.bytes) i.0 i.1 in
    (n.0, front_all c.lines.self.workers c.lines.reading bytes i.0 (all_lines c.lines.self) None n.0 i.2 n.2)
