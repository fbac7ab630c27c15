use Rattle.std.proofs.Common.{rules, subst}
use Rattle.tg_shared.specs.Sessions.{HoldsWhenFree}
use Rattle.tg_shared.proofs.Knowing.{free_as, gone_later}
use Rattle.tg_shared.proofs.locked.Locked.look.Goals as goal

pub look-requires : goal.look-requires
look-requires g c = record {
  gone = λ sees retired gone. gone_later g.L.Round.start c.self.inside.store c.self.inside.register.roll.signed c.self.invariant.0.3 c.journal.ensures.faithful c.self.invariant.1.grown c.args.session.now sees gone;
}

pub returns-clause-looks : goal.returns-clause-looks
returns-clause-looks g c = record {
  held = subst (HoldsWhenFree g.L.Round.start) c.self.view_is (free_as g.L.Round.start c.self.inside.store _ _ c.self.inside.register.roll c.journal.ensures.faithful c.self.invariant.0.3 c.self.invariant.0.4 c.self.invariant.1);
  sees = search rules;
  same = search rules;
}
