use Rattle.std.proofs.Common.{subst, sym}
use Rattle.tg_subjects.specs.Subjects.{MarksHeld}
use Rattle.tg_subjects.proofs.TableLaws.{moved, subjects_same}
use Rattle.tg_subjects.proofs.subjects.Subjects.set_place.Goals as goal

pub invariant_of-self : goal.invariant_of-self
invariant_of-self c =
    let moves = moved c.self.inside.items.items c.args.at c.args.place c.index_mut.result.now c.index_mut.ensures.value in (
      subjects_same _ _ moves.names moves.nurseries c.self.invariant.0,
      c.self.invariant.1,
      subst (MarksHeld c.self.inside.held) (sym moves.nurseries) c.self.invariant.2,
    )

pub returns-clause-names : goal.returns-clause-names
returns-clause-names c = rw (← c.self.view_is) (moved c.self.inside.items.items c.args.at c.args.place c.index_mut.result.now c.index_mut.ensures.value).names

pub returns-clause-nurseries : goal.returns-clause-nurseries
returns-clause-nurseries c = rw (← c.self.view_is) (moved c.self.inside.items.items c.args.at c.args.place c.index_mut.result.now c.index_mut.ensures.value).nurseries

pub returns-clause-places : goal.returns-clause-places
returns-clause-places c = rw (← c.self.view_is) (moved c.self.inside.items.items c.args.at c.args.place c.index_mut.result.now c.index_mut.ensures.value).places
