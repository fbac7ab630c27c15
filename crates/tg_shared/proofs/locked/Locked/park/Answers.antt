-- What a parking leaves in the lock.
use Rattle.std.proofs.Common.{◌≡◌, ◌+◌, ◌∙◌, ◌++◌, ℕ, List, Err, Ok, ap, drop, length, subst, sym}
use Rattle.std.proofs.lemmas.Result.{err_from_is_err_and}
use Rattle.tg_journal.specs.declared.entry.Entry.{Entry}
use Rattle.tg_passes.specs.declared.signed.Maker.TheVariants.{Keeper}
use Rattle.tg_passes.specs.Passes.{sign_all}
use Rattle.tg_store.specs.Store.{StoreState, graph_of_store}
use Rattle.tg_shared.specs.Parking.{ParksUser, entries_of_park}
use Rattle.tg_shared.specs.Sessions.{LockedState}
use Rattle.tg_shared.proofs.Balances.{part_left, some_part}
use Rattle.tg_shared.proofs.ParkLaws.{GotMore, noted_more, park_got}
use Rattle.tg_shared.proofs.WithdrawLaws.{got_entries}
use Rattle.tg_shared.proofs.locked.Locked.park.Goals as goal

pub returns-in_err-parked-clause-answered : goal.returns-in_err-parked-clause-answered
returns-in_err-parked-clause-answered g c =
    let given = err_from_is_err_and c.from_residual.result c.from_residual.ensures.1 in
    let told = c.in_err-parked.ensures in
    subst (ParksUser c.args.parking c.args.self.now.store c.park.new.self) (sym (given.1 ∙ ap Err given.2))
    (subst (λ (b : LockedState). ParksUser c.args.parking b.store c.park.new.self (Err c.in_err-parked.field-0.0)) c.self.view_is
    (record { comes_of = tt; no_such_worker = told.no_such_worker; in_use = told.in_use; refused = told.refused }))

pub returns-clause-answered : goal.returns-clause-answered
returns-clause-answered g c =
    let told = c.in_ok-parked.ensures in
    subst (λ (b : LockedState). ParksUser c.args.parking b.store c.park.new.self (Ok c.in_ok-parked.parked)) c.self.view_is
    (record { comes_of = told.comes; no_such_worker = told.no_such_worker; in_use = told.in_use; refused = tt })

pub returns-clause-sessions : goal.returns-clause-sessions
returns-clause-sessions g c = ap (λ (b : LockedState). b.sessions) c.self.view_is

pub returns-clause-entered : goal.returns-clause-entered
returns-clause-entered g c =
    let old : StoreState = c.self.inside.store in
    let new : StoreState = c.park.new.self in
    let here : c.len-at.result ≡ length old.entries = c.len-at.ensures ∙ ap (λ (es : List Entry). length es) c.journal.ensures.entries in
    let number : c.note_from.result ≡ length (drop (length old.entries) new.entries) = c.note_from.ensures.number ∙ (λ i. length (drop (here i) (c.journal-journal.ensures.entries i))) in
    subst (λ (b : LockedState). c.self.inside.entered + c.note_from.result ≡ b.entered + length (drop (length b.store.entries) new.entries)) c.self.view_is (ap (λ (n : ℕ). c.self.inside.entered + n) number)

pub note_from-requires-clause-part : goal.note_from-requires-clause-part
note_from-requires-clause-part g c = some_part c.self.inside.rest.parts (part_left c.self.inside.store (length g.L.Round.start.entries) c.self.inside.sessions c.self.inside.register.book.total c.self.inside.rest.parts g.L.Ledger.parts c.self.invariant.0.0 c.journal.ensures.faithful)

pub invariant_of-self-2 : goal.invariant_of-self-2
invariant_of-self-2 g c =
    let old : StoreState = c.self.inside.store in
    let new : StoreState = c.park.new.self in
    let more : List Entry = entries_of_park (graph_of_store old) c.args.parking c.in_ok-parked.parked in
    let got : GotMore old new more = park_got c.args.parking old new c.in_ok-parked.parked c.in_ok-parked.ensures.comes in
    let here : c.len-at.result ≡ length old.entries = c.len-at.ensures ∙ ap (λ (es : List Entry). length es) c.journal.ensures.entries in
    let entries : drop c.len-at.result c.journal-journal.result.now.entries ≡ more = ap (drop c.len-at.result) c.journal-journal.ensures.entries ∙ got_entries old.entries new.entries more c.len-at.result got.entries here in
    noted_more g.L.Round.start old new more _ _ _ _ _ _ _ _ _ _ _ _ _ _ got c.self.invariant c.requires.may_end
    (c.note_from.ensures.number ∙ ap (λ (l : List Entry). length l) entries) c.note_from.ensures.book c.note_from.ensures.amount c.note_from.ensures.parts (c.note_from.ensures.roll ∙ (λ i. record { signed = (c.look.ensures.same i).signed ++ sign_all Keeper (entries i); below = (c.look.ensures.same i).below }))
