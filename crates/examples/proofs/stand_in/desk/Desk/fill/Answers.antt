use Rattle.tg_model.specs.declared.command.Command.TheVariants.{Read}
use Rattle.examples.specs.declared.stand_in.desk.TheConstants.{OWNER}
use Rattle.examples.proofs.DeskLaws.{kept-step}
use Rattle.examples.proofs.stand_in.desk.Desk.fill.Goals as goal

pub invariant_of-self-in_default : goal.invariant_of-self-in_default
invariant_of-self-in_default g c =
    kept-step c.self.inside.store c.answered.new.store c.self.inside.thing c.self.inside.stand_in OWNER (Read c.self.inside.thing) c.self.invariant c.in_ok-said.ensures.step (λ same hands. hands) (λ same hands. hands)

pub invariant_of-self-2 : goal.invariant_of-self-2
invariant_of-self-2 g c =
    kept-step c.self.inside.store c.answered.new.store c.self.inside.thing c.self.inside.stand_in OWNER (Read c.self.inside.thing) c.self.invariant c.in_ok-said.ensures.step (λ same hands. hands) (λ same hands. hands)
