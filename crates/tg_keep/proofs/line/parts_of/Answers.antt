use Rattle.std.proofs.Common.{refl, sym, ◌∙◌, arith}
use Rattle.tg_keep.proofs.LineLaws.{begins_at, decided, short_is_not_whole, sum_of_whole, text_in_front, zero_is_not_whole}
use Rattle.tg_keep.proofs.line.parts_of.Goals as goal

pub returns-then-line-lt10-clause-whole : goal.returns-then-line-lt10-clause-whole
returns-then-line-lt10-clause-whole c = short_is_not_whole c.args.before.now c.args.line.now (omega arith)

pub returns-then-has_zero-clause-whole : goal.returns-then-has_zero-clause-whole
returns-then-has_zero-clause-whole c = zero_is_not_whole c.args.before.now c.args.line.now (sym c.if-has_zero.ensures)

pub returns-then-not-is_end-clause-whole : goal.returns-then-not-is_end-clause-whole
returns-then-not-is_end-clause-whole c =
    decided c.args.before.now c.args.line.now c.sum_after-sum.result.digits _ (omega arith) (sym c.if-has_zero.ensures) refl c.sum_after-sum.ensures
    ∙ sym c.if-not-is_end.ensures

pub returns-clause-whole : goal.returns-clause-whole
returns-clause-whole c =
    decided c.args.before.now c.args.line.now c.sum_after-sum.result.digits _ (omega arith) (sym c.if-has_zero.ensures) refl c.sum_after-sum.ensures
    ∙ sym c.if-not-is_end.ensures

pub returns-clause-parts : goal.returns-clause-parts
returns-clause-parts c =
    let whole = decided c.args.before.now c.args.line.now c.sum_after-sum.result.digits _ (omega arith) (sym c.if-has_zero.ensures) refl c.sum_after-sum.ensures
    ∙ sym c.if-not-is_end.ensures in
    (sym (text_in_front c.args.line.now), c.sum_after-sum.ensures ∙ sum_of_whole c.args.before.now c.args.line.now whole, sym (begins_at c.args.line.now (omega arith)))
