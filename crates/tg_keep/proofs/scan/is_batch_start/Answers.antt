use Rattle.std.proofs.Common.{◌&&◌, sym, ◌∙◌, ap}
use Rattle.tg_keep.specs.Lines.{begins_in}
use Rattle.tg_keep.proofs.scan.is_batch_start.Goals as goal

pub returns-in-Some : goal.returns-in-Some
returns-in-Some c = c.in-Some.ensures.parts.2 ∙ sym (ap (λ b. b && begins_in c.args.line.now) c.in-Some.ensures.whole)

pub returns-in-None : goal.returns-in-None
returns-in-None c = sym (ap (λ b. b && begins_in c.args.line.now) c.in-None.ensures.whole)
