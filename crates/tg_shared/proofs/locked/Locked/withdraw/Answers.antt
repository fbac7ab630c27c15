-- What a withdrawal leaves in the lock.
use Rattle.std.proofs.Common.{◌≡◌, ◌+◌, ◌-◌, ◌∙◌, ◌++◌, ℕ, List, ap, drop, length, subst, sym}
use Rattle.tg_journal.specs.declared.entry.Entry.{Entry}
use Rattle.tg_passes.specs.declared.signed.Maker.TheVariants.{Keeper}
use Rattle.tg_passes.specs.Passes.{sign_all}
use Rattle.tg_store.specs.Store.{StoreState, graph_of_store}
use Rattle.tg_store.specs.Withdrawing.{IsWithdrawn, withdrawing}
use Rattle.tg_shared.specs.Sessions.{IsBalanced, LockedState}
use Rattle.tg_shared.proofs.Balances.{locked_more, part_left, some_part}
use Rattle.tg_shared.proofs.Knowing.{rolled_ended}
use Rattle.tg_shared.proofs.WithdrawLaws.{counted_more, got_entries, got_number, none_withdrawn}
use Rattle.tg_shared.proofs.locked.Locked.withdraw.Goals as goal

pub returns-clause-withdrawn : goal.returns-clause-withdrawn
returns-clause-withdrawn g c =
    subst (λ (b : LockedState). IsWithdrawn c.args.target c.args.rights c.args.keep.now b.store c.withdraw.new.self c.in_ok-left.left.items) c.self.view_is c.in_ok-left.ensures.withdrawn

pub returns-clause-sessions : goal.returns-clause-sessions
returns-clause-sessions g c = ap (λ (b : LockedState). b.sessions) c.self.view_is

pub returns-clause-entered : goal.returns-clause-entered
returns-clause-entered g c =
    let old : StoreState = c.self.inside.store in
    let new : StoreState = c.withdraw.new.self in
    let at : ℕ = c.len-at.result in
    let all : ℕ = c.len.result in
    let here : at ≡ length old.entries = c.len-at.ensures ∙ ap (λ (es : List Entry). length es) c.journal.ensures.entries in
    let there : all ≡ length new.entries = c.len.ensures ∙ ap (λ (es : List Entry). length es) c.journal-2.ensures.entries in
    subst (λ (b : LockedState). c.self.inside.entered + (all - at) ≡ b.entered + length (drop (length b.store.entries) new.entries)) c.self.view_is
    (counted_more old.entries new.entries (withdrawing (graph_of_store old) c.args.target c.args.rights c.args.keep.now) at all c.self.inside.entered c.in_ok-left.ensures.withdrawn.entries here there)

pub add-requires : goal.add-requires
add-requires g c = some_part c.self.inside.rest.parts (part_left c.self.inside.store (length g.L.Round.start.entries) c.self.inside.sessions c.self.inside.register.book.total c.self.inside.rest.parts g.L.Ledger.parts c.self.invariant.0.0 c.journal.ensures.faithful)

pub invariant_of-self-2 : goal.invariant_of-self-2
invariant_of-self-2 g c =
    let old : StoreState = c.self.inside.store in
    let new : StoreState = c.withdraw.new.self in
    let told = c.in_ok-left.ensures.withdrawn in
    let more : List Entry = withdrawing (graph_of_store old) c.args.target c.args.rights c.args.keep.now in
    let start : ℕ = length g.L.Round.start.entries in
    let total : ℕ = c.self.inside.register.book.total in
    let at : ℕ = c.len-at.result in
    let all : ℕ = c.len.result in
    let here : at ≡ length old.entries = c.len-at.ensures ∙ ap (λ (es : List Entry). length es) c.journal.ensures.entries in
    let there : all ≡ length new.entries = c.len.ensures ∙ ap (λ (es : List Entry). length es) c.journal-2.ensures.entries in
    let counts = got_number old.entries new.entries more at all told.entries here there in
    let made : c.audit.new.self.total ≡ total + length more = c.audit.ensures.total ∙ c.add.ensures.total ∙ ap (λ (n : ℕ). total + n) counts.1 in
    let before : IsBalanced old start c.self.inside.sessions total c.audit.new.share.parts g.L.Ledger.parts = subst (λ (n : ℕ). IsBalanced old start c.self.inside.sessions total n g.L.Ledger.parts) (sym (c.audit.ensures.parts ∙ c.add.ensures.parts)) c.self.invariant.0.0 in
    let entries : c.entries_from.result.now ≡ more = c.entries_from.ensures ∙ ap (drop at) c.journal-3.ensures.entries ∙ got_entries old.entries new.entries more at told.entries here in (
      locked_more old new more told.entries told.opening g.L.Round.start start c.self.inside.sessions total c.audit.new.self.total c.audit.new.share.parts g.L.Ledger.parts (before, c.self.invariant.0.1, c.self.invariant.0.2, c.self.invariant.0.3, c.self.invariant.0.4)
          (none_withdrawn (graph_of_store old) c.args.target c.args.rights c.args.keep.now) told.limits (λ _. told.handed) made (
            c.audit.ensures.amount ∙ c.add.ensures.amount ∙ ap (λ (n : ℕ). n + (all - at)) c.self.invariant.0.2.0,
            c.self.invariant.0.2.1 ∙ sym told.handed,
          ),
      rolled_ended g.L.Round.start old new c.self.inside.register.roll c.note_all.new.roll c.self.inside.entered (all - at) more c.self.invariant.1 told.entries told.opening c.requires.may_end counts.1
          (c.note_all.ensures.roll ∙ (λ i. record { signed = (c.look.ensures.same i).signed ++ sign_all Keeper (entries i); below = (c.look.ensures.same i).below })),
    )
