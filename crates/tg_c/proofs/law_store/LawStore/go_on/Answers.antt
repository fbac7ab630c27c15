use Rattle.std.proofs.Common.{List, refl, subst}
use Rattle.tg_journal.specs.declared.entry.Entry.{Entry}
use Rattle.tg_resume.specs.declared.part.Halted.{Halted}
use Rattle.tg_resume.specs.Resuming.{IsBadAt, IsHalted}
use Rattle.tg_c.proofs.ResumeLaws.{bad_entry}
use Rattle.tg_c.proofs.law_store.LawStore.go_on.Goals as goal

pub returns-in-Err-BadEntry : goal.returns-in-Err-BadEntry
returns-in-Err-BadEntry c =
    let old = c.args.self.now.store in
    let at = c.in-Err-BadEntry.field-0-0 in
    let bad : IsBadAt c.from_ref.result.now old at =
    subst (λ (h : Halted). IsHalted c.from_ref.result.now old c.replay_all.new.store h) c.in-Err-BadEntry.field-0-is c.in-Err-BadEntry.ensures.halted in
    (refl, bad_entry old c.args.entry.now at c.journal.ensures.faithful (subst (λ (es : List Entry). IsBadAt es old at) c.from_ref.ensures.value bad))
