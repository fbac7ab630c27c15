use Rattle.std.proofs.Common.{◌+◌, ℕ, List, length, take, drop, sym, ◌∙◌, ap, arith}
use Rattle.std.proofs.lemmas.List.{length-drop}
use Rattle.tg_keep.specs.Lines.{raw_lines}
use Rattle.tg_keep.specs.Opened.{has_batch}
use Rattle.tg_keep.proofs.LineLaws.{tail_is}
use Rattle.tg_keep.proofs.Scanning.{batch_found, batch_none, batch_other, none_of}
use Rattle.tg_keep.proofs.scan.has_batch.Goals as goal

pub returns-then-is_batch_start : goal.returns-then-is_batch_start
returns-then-is_batch_start c =
    let left = c.loop-length.left.now in
    let n = c.in-Some.length in
    sym (c.loop-length.invariant.same ∙ batch_found c.loop-length.before.now left (take n left) (drop (n + 1) left) c.in-Some.ensures.lines (sym c.if-is_batch_start.ensures))

pub loop-length-preserved : goal.loop-length-preserved
loop-length-preserved c =
    let left = c.loop-length.left.now in
    let n = c.in-Some.length in
    record {
      same = c.loop-length.invariant.same
          ∙ batch_other c.loop-length.before.now left (take n left) (drop (n + 1) left) c.in-Some.ensures.lines (sym c.if-is_batch_start.ensures)
          ∙ ap (λ (s : List ℕ). has_batch s (raw_lines (drop (n + 1) left))) (sym c.sum_in-before.ensures)
          ∙ ap (λ (l : List ℕ). has_batch c.sum_in-before.result.now (raw_lines l)) (sym (tail_is (n + 1) left));
      few = omega (arith, c.loop-length.invariant.few, ap length (tail_is (n + 1) left), length-drop (n + 1) left);
    }

pub returns : goal.returns
returns c =
    let none = none_of c.first_length.result _ _ c.first_length.ensures.lines c.in_default.not-Some in
    sym (c.loop-length.invariant.same ∙ batch_none c.loop-length.before.now c.loop-length.left.now none)
