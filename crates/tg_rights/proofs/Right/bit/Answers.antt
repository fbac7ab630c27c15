use Rattle.std.proofs.Common.{◌∙◌, ap}
use Rattle.tg_rights.specs.RightSet.{bits_of}
use Rattle.tg_rights.proofs.RightBits.{bits_of-only}
use Rattle.tg_rights.proofs.Right.bit.Goals as goal

pub returns : goal.returns
returns c = c.bits.ensures.value ∙ ap bits_of c.of.ensures ∙ bits_of-only c.args.self
