use Rattle.std.proofs.Common.{◌≡◌, ◌≢◌, ◌∙◌, ℕ, ap}
use Rattle.examples.specs.declared.stand_in.desk.TheConstants.{OWNER}
use Rattle.examples.specs.Desk.{DeskState, shown_at}
use Rattle.examples.proofs.DeskLaws.{kept-client, shown-step}
use Rattle.examples.proofs.stand_in.desk.Desk.ask.Goals as goal

pub invariant_of-self-2 : goal.invariant_of-self-2
invariant_of-self-2 g c =
    let other : c.args.client ≢ OWNER = c.if-client-eq-OWNER.false in
    kept-client c.self.inside.store c.answered.new.store c.self.inside.thing c.self.inside.stand_in c.args.client c.args.command c.self.invariant c.in_ok-answered.ensures.step other

pub returns-clause-left : goal.returns-clause-left
returns-clause-left g c =
    let other : c.args.client ≢ OWNER = c.if-client-eq-OWNER.false in
    shown-step c.self.inside.store c.answered.new.store c.self.inside.thing c.self.inside.stand_in c.args.client c.args.command c.self.invariant c.in_ok-answered.ensures.step (λ same puts. other same)
    ∙ ap shown_at c.self.view_is
