use Rattle.std.proofs.Common.{◌∙◌, ap}
use Rattle.tg_keep.specs.Lines.{texts_after}
use Rattle.tg_kept.proofs.ReadLaws.{first_passed, none_passed}
use Rattle.tg_kept.proofs.read.after_first.Goals as goal

pub returns-in-Some : goal.returns-in-Some
returns-in-Some c = first_passed c.args.file.now c.new-reader.result.sum.digits c.new-reader.result.left.now _ _ _ c.new-reader.ensures.sum c.new-reader.ensures.left c.in-Some.ensures.read

pub returns-in-None : goal.returns-in-None
returns-in-None c =
    ap (λ r. texts_after r.sum.digits r.left.now) c.in-None.ensures.unchanged
    ∙ none_passed c.args.file.now c.new-reader.result.sum.digits c.new-reader.result.left.now c.new-reader.ensures.sum c.new-reader.ensures.left c.in-None.ensures.end
