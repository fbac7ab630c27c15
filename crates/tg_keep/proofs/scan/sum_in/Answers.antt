use Rattle.std.proofs.Common.{drop, ◌∙◌, ap}
use Rattle.tg_keep.specs.Lines.{sum_in}
use Rattle.tg_keep.proofs.LineLaws.{tail_is}
use Rattle.tg_keep.proofs.scan.sum_in.Goals as goal

pub returns : goal.returns
unfolding sum_in
returns c = tail_is c.saturating_sub.result c.args.line.now ∙ ap (λ n. drop n c.args.line.now) c.saturating_sub.ensures
