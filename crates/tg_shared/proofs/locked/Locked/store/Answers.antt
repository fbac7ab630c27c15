use Rattle.std.proofs.Common.{subst}
use Rattle.tg_shared.specs.Sessions.{HoldsWhenFree}
use Rattle.tg_shared.proofs.Knowing.{free_as}
use Rattle.tg_shared.proofs.locked.Locked.store.Goals as goal

pub returns-clause-held : goal.returns-clause-held
returns-clause-held g c = subst (HoldsWhenFree g.L.Round.start) c.self.view_is (free_as g.L.Round.start c.self.inside.store _ _ c.self.inside.register.roll c.journal.ensures.faithful c.self.invariant.0.3 c.self.invariant.0.4 c.self.invariant.1)
