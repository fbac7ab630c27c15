use Rattle.std.proofs.Common.{rules, subst}
use Rattle.tg_shared.specs.Sessions.{HoldsWhenFree}
use Rattle.tg_shared.proofs.Knowing.{free_as}
use Rattle.tg_shared.proofs.locked.Locked.tell.Goals as goal

pub returns-clause-looks : goal.returns-clause-looks
returns-clause-looks g c = record {
  held = subst (HoldsWhenFree g.L.Round.start) c.self.view_is (free_as g.L.Round.start c.self.inside.store _ _ c.self.inside.register.roll c.journal.ensures.faithful c.self.invariant.0.3 c.self.invariant.0.4 c.self.invariant.1);
  sees = search rules;
  same = search rules;
}
