use Rattle.std.proofs.Common.{sym, subst}
use Rattle.tg_model.specs.declared.command.Command.TheVariants.{Grant}
use Rattle.tg_model.specs.Graph.{ProtectionGraph}
use Rattle.tg_model.proofs.AllowedLaws.{step-allowed}
use Rattle.tg_could.specs.Turns.{NeverHolds}
use Rattle.tg_could.proofs.laws.a_grant_is_asked_about_before_it_is_made.Goals as goal

pub returns : goal.returns
returns c silent g host via target rights host_silent permits x right y never =
    subst (λ (h : ProtectionGraph). NeverHolds silent h x right y) (sym (step-allowed g host (Grant rights via target) permits)) never
