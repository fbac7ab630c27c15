use Rattle.tg_model.specs.declared.command.Command.TheVariants.{Write}
use Rattle.examples.specs.declared.stand_in.desk.TheConstants.{OWNER}
use Rattle.examples.proofs.DeskLaws.{kept-step}
use Rattle.examples.proofs.stand_in.desk.Desk.put.Goals as goal

pub invariant_of-self-2 : goal.invariant_of-self-2
invariant_of-self-2 g c =
    kept-step c.self.inside.store c.answered.new.store c.self.inside.thing c.self.inside.stand_in OWNER (Write c.self.inside.stand_in c.args.value) c.self.invariant c.in_ok-answered.ensures.step (λ same hands. hands) (λ same hands. hands)
