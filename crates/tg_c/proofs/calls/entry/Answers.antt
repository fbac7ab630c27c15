use Rattle.std.proofs.Common.{◌∙◌, refl, sym, ap, subst, Result}
use Rattle.tg_journal.specs.declared.entry.Entry.{Entry}
use Rattle.tg_c.specs.declared.refusal.CallRefusal.{CallRefusal}
use Rattle.tg_c.specs.Calls.{IsEntryAt}
use Rattle.tg_c.specs.Records.{entry_at}
use Rattle.tg_c.specs.Statuses.{EntryOut, TellsEntry}
use Rattle.tg_c.proofs.CallLaws.{as_it_is, served_as}
use Rattle.tg_c.proofs.calls.entry.Goals as goal

pub returns : goal.returns
returns c =
    let store = c.deref.result.now.store in
    let old : EntryOut = record { record_out = c.args.out.now; numbers = c.args.numbers.now; edges = c.args.edges.now } in
    let new : EntryOut = record { record_out = c.tell_entry-status.new.out; numbers = c.tell_entry-status.new.numbers; edges = c.tell_entry-status.new.edges } in
    let answer : Result Entry CallRefusal = entry_at store.handed store.entries c.args.at in
    served_as (λ why. why) (IsEntryAt c.args.at) c.args.place.now c.put.new.self (TellsEntry c.tell_entry-status.result old new) store store answer
    c.in-Some.ensures.taken.0 c.put.ensures.open (sym (ap (λ s. s.store) (c.deref.ensures ∙ c.in-Some.ensures.taken.1))) (ap (λ s. s.store) (c.put.ensures.opened ∙ sym c.deref.ensures))
    (subst (λ told. TellsEntry c.tell_entry-status.result old new told) ((λ i. entry_at (c.journal.ensures.start i) (c.journal.ensures.entries i) c.args.at) ∙ sym (as_it_is answer)) c.tell_entry-status.ensures)
    (refl, refl)
