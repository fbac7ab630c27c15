use Rattle.std.proofs.Common.{◌∙◌, subst, sym}
use Rattle.tg_entries.specs.Read.{IsNext}
use Rattle.tg_journal.specs.declared.entry.Entry.{Entry}
use Rattle.tg_journal.specs.Live.{AuditState}
use Rattle.tg_entries.proofs.ReadLaws.{entry_read}
use Rattle.tg_entries.proofs.audit.entry_line.Goals as goal

pub returns : goal.returns
returns g c = λ keeps text was.
    let same = c.keep.ensures.same in
    let e : Entry = record { worker = c.in_ok-worker.worker; deed = c.in_ok-worker.deed; reply = c.in-Some-2.reply } in
    entry_read keeps text c.args.line.now c.args.entered.now c.keep.new.self e was
    (λ h come. subst (λ (a : AuditState). IsNext h c.args.entered.now.auditor.at c.args.line.now a e) (sym same.0) (rw c.in-Some-2.is at (c.in_ok-reply.ensures h come)))
    (same.1 ∙ c.in-Some.ensures.1) same.2 (c.in_ok-keep.ensures.kept keeps)
