use Rattle.std.proofs.Common.{◌∙◌, subst, sym}
use Rattle.tg_entries.specs.Read.{IsListedEntry, entry_with}
use Rattle.tg_journal.specs.declared.entry.Entry.{Entry}
use Rattle.tg_journal.specs.Live.{AuditState}
use Rattle.tg_entries.proofs.ReadLaws.{listed_read}
use Rattle.tg_entries.proofs.long.long_entry.Goals as goal

pub returns : goal.returns
returns g c = λ keeps text was.
    let left = g.R.Read.remaining in
    let same = c.keep.ensures.same in
    let e : Entry = entry_with c.in_ok-told.told c.in-Some-2.reply in
    listed_read keeps text c.args.line.now.items (left c.args.reader.now) (left c.next_listing.new.reader) c.args.entered c.keep.new.self e was
    (λ h come. subst (λ (a : AuditState). IsListedEntry h c.args.entered.auditor.at c.args.line.now.items (left c.args.reader.now) (left c.next_listing.new.reader) a e) (sym same.0) (rw c.in-Some-2.is at (c.in_ok-reply.ensures h come)))
    (same.1 ∙ c.in-Some.ensures.1) same.2 (c.in_ok-keep.ensures.kept keeps)
