use Rattle.tg_model.specs.declared.command.Command.TheVariants.{Grant}
use Rattle.examples.specs.declared.stand_in.desk.TheConstants.{OWNER}
use Rattle.examples.proofs.DeskLaws.{hands_none, kept-step}
use Rattle.examples.proofs.stand_in.desk.Desk.hand_out.Goals as goal

pub invariant_of-self-2 : goal.invariant_of-self-2
invariant_of-self-2 g c =
    kept-step c.self.inside.store c.answered.new.store c.self.inside.thing c.self.inside.stand_in OWNER (Grant c.read_right.result c.args.client c.self.inside.stand_in) c.self.invariant c.in_ok-answered.ensures.step
    (λ same hands. c.self.invariant.apart hands.0)
    (λ same hands. hands_none c.read_right.result c.args.client c.self.inside.stand_in c.read_right.ensures hands)
