use Rattle.tg_shared.proofs.Balances.{collected, locked_same}
use Rattle.tg_shared.proofs.Knowing.{rolled_same}
use Rattle.tg_shared.proofs.locked.Locked.collect.Goals as goal

pub invariant_of-self : goal.invariant_of-self
invariant_of-self g c =
    let kept = c.collect.ensures.history in (
      locked_same g.L.Round.start c.self.inside.store c.collect.new.self _ _ _ _ _ c.self.invariant.0 kept.entries kept.opening kept.limits kept.handed,
      rolled_same g.L.Round.start c.self.inside.store c.collect.new.self c.self.inside.register.roll c.self.inside.entered c.self.invariant.1 kept.entries kept.opening,
    )

pub returns-clause-collected : goal.returns-clause-collected
returns-clause-collected g c =
    let told = c.collect.ensures in
    collected c.args.kind 0 c.self.inside.store c.collect.new.self c.self.inside.sessions c.self.inside.entered c.self.inside.register.roll.signed c.args.self.now c.collect.result c.self.view_is told.swept told.blocks told.history
