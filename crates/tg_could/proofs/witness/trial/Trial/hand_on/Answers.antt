use Rattle.std.proofs.Common.{subst}
use Rattle.tg_rights.specs.RightSet.{RightSet}
use Rattle.tg_model.specs.Rules.{HoldsOver}
use Rattle.tg_could.proofs.TurnLaws.{stands-added}
use Rattle.tg_could.proofs.witness.trial.Trial.hand_on.Goals as goal

pub returns-then-all_hold : goal.returns-then-all_hold
returns-then-all_hold c t g stands =
    let all = c.all_hold.ensures c.if-all_hold.true in
    let three = c.all_differ-three.ensures all.0 in
    let added = c.in_ok-add.ensures in (
      three.0,
      three.1,
      three.2,
      subst (λ (s : RightSet). HoldsOver g.label c.args.transfer.worker c.args.transfer.via s) c.of.ensures (c.has_all-may.ensures all.1 g.label stands.first stands.later),
      subst (λ (s : RightSet). HoldsOver g.label c.args.transfer.giver c.args.transfer.target s) c.rights.ensures.same (c.has_all-has.ensures all.2 g.label stands.first stands.later),
      stands-added c.args.edges.now c.args.self.now c.add.new.self g (record { from = c.args.transfer.taker; to = c.args.transfer.target; label = c.args.transfer.rights }) added.added added.subjects added.made added.limit stands,
    )
