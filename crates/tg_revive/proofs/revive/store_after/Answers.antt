use Rattle.std.proofs.Common.{List, subst}
use Rattle.std.specs.Prelude.{IfErr}
use Rattle.tg_journal.specs.declared.entry.Entry.{Entry}
use Rattle.tg_revive.specs.Reviving.{IsReviveFault}
use Rattle.tg_revive.proofs.revive.store_after.Goals as goal

pub returns-in-Ok-clause-refused : goal.returns-in-Ok-clause-refused
returns-in-Ok-clause-refused g c =
    subst (λ (es : List Entry). IfErr c.go_on.result (IsReviveFault c.args.history.start es c.args.limits)) c.as_slice.ensures.value
    (c.go_on.ensures.refused c.args.history.start c.args.limits c.in-Ok.ensures.begun)

pub returns-clause-refused : goal.returns-clause-refused
returns-clause-refused g c = c.in-Err.ensures.refused c.args.history.entries.items
