-- What an end leaves in the lock.
use Rattle.std.proofs.Common.{◌≡◌, ◌+◌, ◌-◌, ◌∙◌, ◌++◌, ℕ, List, Err, Ok, ap, drop, length, refl, subst, sym}
use Rattle.std.proofs.lemmas.Result.{err_from_is_err_and}
use Rattle.tg_model.specs.Graph.{listing_of}
use Rattle.tg_journal.specs.declared.entry.Entry.{Entry}
use Rattle.tg_passes.specs.declared.signed.Maker.TheVariants.{Keeper}
use Rattle.tg_passes.specs.Passes.{sign_all}
use Rattle.tg_store.specs.Leaving.{HasLeft, leaving}
use Rattle.tg_store.specs.Store.{StoreState, graph_of_store}
use Rattle.tg_shared.specs.Serving.{EndsWorker}
use Rattle.tg_shared.specs.Sessions.{IsBalanced, LockedState}
use Rattle.tg_shared.proofs.Balances.{part_left, some_part}
use Rattle.tg_shared.proofs.Ending.{got_count, got_from}
use Rattle.tg_shared.proofs.Knowing.{rolled_ended}
use Rattle.tg_shared.proofs.Leavings.{locked_left}
use Rattle.tg_shared.proofs.Replies.{ends}
use Rattle.tg_shared.proofs.locked.Locked.end.Goals as goal

pub returns-in_err-count-clause-ended : goal.returns-in_err-count-clause-ended
returns-in_err-count-clause-ended g c =
    let given = err_from_is_err_and c.from_residual.result c.from_residual.ensures.1 in
    let told = c.in_err-count.ensures in
    subst (EndsWorker c.args.worker c.args.self.now.store c.leave.new.self) (sym (given.1 ∙ ap Err given.2))
    (subst (λ (b : LockedState). EndsWorker c.args.worker b.store c.leave.new.self (Err c.in_err-count.field-0.0)) c.self.view_is
    (ends c.self.inside.store c.leave.new.self c.args.worker c.args.worker (Err c.in_err-count.field-0.0) refl tt (λ _ _. tt) told.no_such_worker told.never_full told.refused))

pub returns-clause-ended : goal.returns-clause-ended
returns-clause-ended g c =
    let told = c.in_ok-count.ensures in
    subst (λ (b : LockedState). EndsWorker c.args.worker b.store c.leave.new.self (Ok c.in_ok-count.count)) c.self.view_is
    (ends c.self.inside.store c.leave.new.self c.args.worker c.args.worker (Ok c.in_ok-count.count) refl told.left told.count told.no_such_worker told.never_full tt)

pub returns-clause-sessions : goal.returns-clause-sessions
returns-clause-sessions g c = ap (λ (b : LockedState). b.sessions) c.self.view_is

pub add-requires : goal.add-requires
add-requires g c = some_part c.self.inside.rest.parts (part_left c.self.inside.store (length g.L.Round.start.entries) c.self.inside.sessions c.self.inside.register.book.total c.self.inside.rest.parts g.L.Ledger.parts c.self.invariant.0.0 c.journal.ensures.faithful)

pub invariant_of-self-2 : goal.invariant_of-self-2
invariant_of-self-2 g c =
    let old : StoreState = c.self.inside.store in
    let new : StoreState = c.leave.new.self in
    let worker : ℕ = c.args.worker in
    let left : HasLeft worker old new = c.in_ok-count.ensures.left in
    let start : ℕ = length g.L.Round.start.entries in
    let total : ℕ = c.self.inside.register.book.total in
    let at : ℕ = c.len-at.result in
    let all : ℕ = c.len.result in
    let here : at ≡ length old.entries = c.len-at.ensures ∙ ap (λ (es : List Entry). length es) c.journal.ensures.entries in
    let there : all ≡ length new.entries = c.len.ensures ∙ ap (λ (es : List Entry). length es) c.journal-2.ensures.entries in
    let number = c.in_ok-count.ensures.count (graph_of_store old) refl in
    let counts = got_count old new worker at all c.in_ok-count.count left here there number in
    let made : c.audit.new.self.total ≡ total + (length (listing_of (graph_of_store old).label (graph_of_store old).made worker) + 1) = c.audit.ensures.total ∙ c.add.ensures.total ∙ ap (λ (n : ℕ). total + n) (counts.1 ∙ ap (λ (n : ℕ). n + 1) number) in
    let before : IsBalanced old start c.self.inside.sessions total c.audit.new.share.parts g.L.Ledger.parts = subst (λ (n : ℕ). IsBalanced old start c.self.inside.sessions total n g.L.Ledger.parts) (sym (c.audit.ensures.parts ∙ c.add.ensures.parts)) c.self.invariant.0.0 in
    let entries : c.entries_from.result.now ≡ leaving (graph_of_store old) worker = c.entries_from.ensures ∙ ap (drop at) c.journal-3.ensures.entries ∙ got_from old new worker at left here in (
      locked_left old new worker left g.L.Round.start start c.self.inside.sessions total c.audit.new.self.total c.audit.new.share.parts g.L.Ledger.parts (before, c.self.invariant.0.1, c.self.invariant.0.2, c.self.invariant.0.3, c.self.invariant.0.4) made (
        c.audit.ensures.amount ∙ c.add.ensures.amount ∙ ap (λ (n : ℕ). n + (all - at)) c.self.invariant.0.2.0,
        c.self.invariant.0.2.1 ∙ sym left.handed,
      ),
      rolled_ended g.L.Round.start old new c.self.inside.register.roll c.note_all.new.roll c.self.inside.entered (all - at) (leaving (graph_of_store old) worker) c.self.invariant.1 left.entries left.opening c.requires.may_end counts.2
          (c.note_all.ensures.roll ∙ (λ i. record { signed = (c.look.ensures.same i).signed ++ sign_all Keeper (entries i); below = (c.look.ensures.same i).below })),
    )
