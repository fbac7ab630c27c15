use Rattle.std.proofs.Common.{◌∙◌}
use Rattle.tg_keep.proofs.zeros.lay_zeros.Goals as goal

pub returns-clause-left : goal.returns-clause-left
returns-clause-left g c = record {
  crash = λ f left. c.write_zeros.ensures.left.crash f (c.sync.ensures.crash f left);
  calm = c.sync.ensures.calm ∙ c.write_zeros.ensures.left.calm;
}
