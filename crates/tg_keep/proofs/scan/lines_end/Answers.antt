use Rattle.std.proofs.Common.{◌==◌, ◌&&◌, ◌+◌, ℕ, List, length, sym, ◌∙◌, ap, arith}
use Rattle.std.proofs.lemmas.List.{length-drop}
use Rattle.tg_keep.specs.Lines.{first_sum, is_mark, length_after, raw_lines}
use Rattle.tg_keep.specs.Opened.{has_later_batch}
use Rattle.tg_keep.proofs.Scanning.{count_is, last_is_of, left_is, place_is, sum_is}
use Rattle.tg_keep.proofs.scan.lines_end.Goals as goal

pub returns-then-has_later_batch-clause-refused : goal.returns-then-has_later_batch-clause-refused
returns-then-has_later_batch-clause-refused c =
    let file = c.args.file.now in
    let reader = c.new-reader.result in
    let skip = c.skip_lines-passed.ensures in
    let left = c.skip_lines-passed.new.reader.left.now in
    let same = c.new-reader.ensures.left in
    let first = c.new-reader.ensures.sum in
    record {
      damaged = ap (λ (l : List ℕ). has_later_batch (raw_lines l)) (sym (left_is file reader.sum.digits reader.left.now same first left skip.within skip.left)) ∙ sym c.if-has_later_batch.ensures;
      number = ap (λ n. n + 1) (skip.count ∙ count_is file reader.sum.digits reader.left.now same first);
      place = place_is file reader.sum.digits reader.left.now same first left skip.within skip.left;
    }

pub returns-clause-at : goal.returns-clause-at
returns-clause-at c =
    let reader = c.new-reader.result in
    let skip = c.skip_lines-passed.ensures in
    place_is c.args.file.now reader.sum.digits reader.left.now c.new-reader.ensures.left c.new-reader.ensures.sum c.skip_lines-passed.new.reader.left.now skip.within skip.left

pub returns-clause-sum : goal.returns-clause-sum
returns-clause-sum c =
    let reader = c.new-reader.result in
    c.skip_lines-passed.ensures.sum ∙ sum_is c.args.file.now reader.sum.digits reader.left.now c.new-reader.ensures.left c.new-reader.ensures.sum

pub returns-clause-opens : goal.returns-clause-opens
returns-clause-opens c =
    let file = c.args.file.now in
    let reader = c.new-reader.result in
    let skip = c.skip_lines-passed.ensures in
    let left = c.skip_lines-passed.new.reader.left.now in
    record {
      kept = sym c.if-not-has_first_text.ensures;
      undamaged = ap (λ (l : List ℕ). has_later_batch (raw_lines l)) (sym (left_is file reader.sum.digits reader.left.now c.new-reader.ensures.left c.new-reader.ensures.sum left skip.within skip.left)) ∙ sym c.if-has_later_batch.ensures;
    }

pub overflow_sub-at : goal.overflow_sub-at
overflow_sub-at c =
    let reader = c.new-reader.result in
    omega (arith, ap length c.skip_lines-passed.ensures.left, length-drop (length_after reader.sum.digits reader.left.now) reader.left.now, ap length c.new-reader.ensures.left)

pub returns-clause-closed : goal.returns-clause-closed
returns-clause-closed c =
    let file = c.args.file.now in
    let reader = c.new-reader.result in
    let skip = c.skip_lines-passed.ensures in
    let left = c.skip_lines-passed.new.reader.left.now in
    let same = c.new-reader.ensures.left in
    let first = c.new-reader.ensures.sum in
    let last = c.skip_lines-passed.result.last.now in
    c.is_closing-closed.ensures
    ∙ ap (λ n. (n == length file) && is_mark last) (place_is file reader.sum.digits reader.left.now same first left skip.within skip.left)
    ∙ ap (λ (t : List ℕ). (length_after first_sum file == length file) && is_mark t) (skip.last ∙ last_is_of file reader.sum.digits reader.left.now same first)
