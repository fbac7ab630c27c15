use Rattle.std.proofs.Common.{ap₂, ◌∙◌}
use Rattle.tg_rights.specs.RightSet.{holds_all}
use Rattle.tg_rights.proofs.RightLaws.{holds_all-only}
use Rattle.tg_could.proofs.separation.has.Goals as goal

pub returns : goal.returns
returns c = c.contains.ensures ∙ (ap₂ holds_all c.rights.ensures.same c.of.ensures ∙ holds_all-only c.args.label c.args.right)
