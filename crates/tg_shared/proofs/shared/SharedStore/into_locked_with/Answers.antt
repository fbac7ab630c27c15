use Rattle.std.proofs.Common.{◌∙◌, List, length, ap, subst, sym}
use Rattle.tg_journal.specs.declared.entry.Entry.{Entry}
use Rattle.tg_shared.specs.Sessions.{HoldsWhenFree, LockedState}
use Rattle.tg_shared.proofs.shared.SharedStore.into_locked_with.Goals as goal

pub returns-clause-held : goal.returns-clause-held
returns-clause-held g c = subst (HoldsWhenFree g.L.Round.start) (sym c.tell.ensures.looks.same) c.into_locked-locked.ensures.held

pub returns-clause-entered : goal.returns-clause-entered
returns-clause-entered g c = ap (λ (b : LockedState). b.entered) c.tell.ensures.looks.same ∙ c.into_locked-locked.ensures.held.entered ∙ ap (λ (l : List Entry). length l) c.tell.ensures.looks.sees.own
