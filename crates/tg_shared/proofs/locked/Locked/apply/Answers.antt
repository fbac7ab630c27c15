use Rattle.std.proofs.Common.{◌≡◌, ◌∙◌, ℕ, ◌++◌, ◌∷◌, [], List, length, Err, Ok, ap, refl, subst, sym}
use Rattle.std.proofs.lemmas.Result.{err_from_is_err_and}
use Rattle.tg_model.specs.Graph.{IsSubject}
use Rattle.tg_model.specs.declared.command.Deed.{Deed}
use Rattle.tg_journal.specs.declared.entry.Entry.{Entry}
use Rattle.tg_model.specs.declared.reply.Reply.{Reply}
use Rattle.tg_store.specs.declared.fault.ApplyFault.TheVariants.{NoSuchWorker}
use Rattle.tg_store.specs.Store.{StoreState, Enters, graph_of_store}
use Rattle.tg_shared.specs.Serving.{HasNoted, KeepsRound, ServesCommand}
use Rattle.tg_shared.specs.Sessions.{AddsReceipt, LockedState, SharedStart}
use Rattle.tg_shared.proofs.Balances.{goes_on_more, locked_as, locked_entered, locked_same}
use Rattle.tg_shared.proofs.Calls.{ok_not_err}
use Rattle.tg_shared.proofs.Knowing.{gone_noted, noted_as, noted_none, one_own, rolled_more, rolled_same, stays_gone}
use Rattle.tg_shared.proofs.Replies.{gone_behind, refuses, serves}
use Rattle.tg_shared.proofs.locked.Locked.apply.Goals as goal

pub invariant_of-self : goal.invariant_of-self
invariant_of-self g c =
    let kept = c.in_err-reply.ensures.refused in (
      locked_same g.L.Round.start c.self.inside.store c.apply.new.self _ _ _ _ _ c.self.invariant.0 kept.entries kept.opening c.apply.ensures.limits c.apply.ensures.handed,
      rolled_same g.L.Round.start c.self.inside.store c.apply.new.self c.self.inside.register.roll c.self.inside.entered c.self.invariant.1 kept.entries kept.opening,
    )

pub returns-in_err-reply-clause-served : goal.returns-in_err-reply-clause-served
returns-in_err-reply-clause-served g c =
    let given = err_from_is_err_and c.from_residual.result c.from_residual.ensures.1 in
    let told = c.in_err-reply.ensures in
    subst (ServesCommand c.args.command c.args.self.now.store c.apply.new.self c.args.session.now c.args.session.now) (sym (given.1 ∙ ap Err given.2))
    (subst (λ (b : LockedState). ServesCommand c.args.command b.store c.apply.new.self c.args.session.now c.args.session.now (Err c.in_err-reply.field-0.0)) c.self.view_is
    (refuses c.args.command c.self.inside.store c.apply.new.self c.in_err-reply.field-0.0 c.worker-worker.result c.args.session.now c.worker-worker.ensures (told.no_such_worker, told.full) told.refused))

abbrev entry_of : ℕ → Deed → Reply → Entry
entry_of worker deed reply = record { worker = worker; deed = deed; reply = reply }

-- the entry that was made
entered_as : (old new : StoreState) (worker : ℕ) (deed given : Deed) (reply : Reply) → Enters old new worker deed reply → given ≡ deed → Enters old new worker given reply
entered_as old new worker deed given reply entry is = entry ∙ (λ i. old.entries ++ (record { worker = worker; deed = sym is i; reply = reply }) ∷ [])

pub note-requires : goal.note-requires
note-requires g c =
    let start : SharedStart = g.L.Round.start in
    let old : StoreState = c.self.inside.store in
    let new : StoreState = c.apply.new.self in
    let told = c.in_ok-reply.ensures in
    let grew = c.self.invariant.1.grown in
    record {
      room = c.requires.room;
      own = c.worker-worker.ensures;
      still = λ sees retired gone.
          ok_not_err c.in_ok-reply.reply NoSuchWorker ((told.no_such_worker (graph_of_store old) refl).1
          (subst (λ (w : ℕ). ¬ IsSubject (graph_of_store old) w) (sym c.worker-worker.ensures)
          (stays_gone start old c.self.inside.register.roll.signed c.self.invariant.0.3 c.journal.ensures.faithful grew c.args.session.now sees gone)));
      gone = λ is. gone_noted start old new c.self.inside.register.roll.signed c.args.session.now.worker [] (entry_of c.worker-worker.result c.deed_of-deed.result c.in_ok-reply.reply) grew
          (entered_as old new c.worker-worker.result (Deed.Plain c.args.command) c.deed_of-deed.result c.in_ok-reply.reply told.entry c.deed_of-deed.ensures) c.apply.ensures.opening
          (one_own c.args.session.now.worker _ c.worker-worker.ensures) c.worker-worker.ensures
          (goes_on_more old new _ told.entry c.apply.ensures.opening start c.self.invariant.0.3 c.apply.ensures.limits (λ _. c.apply.ensures.handed)) c.journal.ensures.faithful c.journal-2.ensures.faithful
          (subst (λ (w : ℕ). ¬ IsSubject (graph_of_store new) w) c.worker-worker.ensures
          (gone_behind (graph_of_store old) (graph_of_store new) c.worker-worker.result c.args.command (sym c.deed_of-deed.ensures ∙ is) (told.step (graph_of_store old) refl)));
    }

pub returns-clause-signed : goal.returns-clause-signed
returns-clause-signed g c =
    let old : StoreState = c.self.inside.store in
    let new : StoreState = c.apply.new.self in
    subst (λ (b : LockedState). HasNoted b (locked_as new c.self.inside.sessions c.self.inside.entered c.note.new.register.roll.signed) c.args.session.now c.note.new.self) c.self.view_is
    (noted_as (locked_as old c.self.inside.sessions c.self.inside.entered c.self.inside.register.roll.signed) new c.self.inside.sessions c.self.inside.entered c.args.session.now c.note.new.self c.self.inside.register.roll c.note.new.register.roll
    (entry_of c.worker-worker.result c.deed_of-deed.result c.in_ok-reply.reply ∷ []) refl
    (entered_as old new c.worker-worker.result (Deed.Plain c.args.command) c.deed_of-deed.result c.in_ok-reply.reply c.in_ok-reply.ensures.entry c.deed_of-deed.ensures) c.note.ensures.signed)

pub returns-in_err-reply-clause-signed : goal.returns-in_err-reply-clause-signed
returns-in_err-reply-clause-signed g c =
    subst (λ (b : LockedState). HasNoted b (locked_as c.apply.new.self c.self.inside.sessions c.self.inside.entered c.self.inside.register.roll.signed) c.args.session.now c.args.session.now) c.self.view_is
    (noted_none (locked_as c.self.inside.store c.self.inside.sessions c.self.inside.entered c.self.inside.register.roll.signed) c.apply.new.self c.self.inside.sessions c.self.inside.entered c.self.inside.register.roll.signed c.args.session.now c.args.session.now c.in_err-reply.ensures.refused.entries refl refl)

pub returns-clause-served : goal.returns-clause-served
returns-clause-served g c =
    let told = c.in_ok-reply.ensures in
    let noted : ℕ → Deed → Type 0 = λ at deed. AddsReceipt c.args.session.now c.note.new.self at deed c.in_ok-reply.reply in
    let place : c.len-at.result ≡ length c.self.inside.store.entries = c.len-at.ensures ∙ ap (λ (es : List Entry). length es) c.journal.ensures.entries in
    subst (λ (b : LockedState). ServesCommand c.args.command b.store c.apply.new.self c.args.session.now c.note.new.self (Ok tt)) c.self.view_is
    (serves c.args.command c.self.inside.store c.apply.new.self c.in_ok-reply.reply c.worker-worker.result c.args.session.now c.note.new.self tt c.worker-worker.ensures
    (told.entry, told.reply, told.step, (λ denial is. (told.denied denial (λ i. Ok (is i))).heap), told.no_such_worker)
    (subst (λ (n : ℕ). noted n (Deed.Plain c.args.command)) place (subst (noted c.len-at.result) c.deed_of-deed.ensures c.note.ensures.receipt)))

pub returns-clause-kept : goal.returns-clause-kept
returns-clause-kept g c =
    let told = c.apply.ensures in
    subst (λ (b : LockedState). KeepsRound b (locked_as c.apply.new.self c.self.inside.sessions c.self.inside.entered c.note.new.register.roll.signed)) c.self.view_is
    (record { opening = told.opening; handed = told.handed; limits = told.limits; numbers = record { sessions = refl; entered = refl } })

pub invariant_of-self-2 : goal.invariant_of-self-2
invariant_of-self-2 g c =
    let told = c.in_ok-reply.ensures in (
      locked_entered g.L.Round.start c.self.inside.store c.apply.new.self _ _ _ _ _ _ c.worker-worker.result (Deed.Plain c.args.command) c.in_ok-reply.reply refl c.self.invariant.0 told.entry c.apply.ensures.opening c.apply.ensures.limits c.apply.ensures.handed c.note.ensures.book,
      rolled_more g.L.Round.start c.self.inside.store c.apply.new.self c.self.inside.register.roll c.note.new.register.roll c.args.session.now.worker c.self.inside.entered (entry_of c.worker-worker.result c.deed_of-deed.result c.in_ok-reply.reply ∷ []) c.self.invariant.1
          (entered_as c.self.inside.store c.apply.new.self c.worker-worker.result (Deed.Plain c.args.command) c.deed_of-deed.result c.in_ok-reply.reply told.entry c.deed_of-deed.ensures) c.apply.ensures.opening
          (one_own c.args.session.now.worker _ c.worker-worker.ensures) c.note.ensures.signed.roll,
    )

pub returns-clause-collections : goal.returns-clause-collections
returns-clause-collections g c = c.apply.ensures.collections ∙ ap (λ (b : LockedState). b.store.collections) c.self.view_is

pub returns-in_err-reply-clause-collections : goal.returns-in_err-reply-clause-collections
returns-in_err-reply-clause-collections g c = c.apply.ensures.collections ∙ ap (λ (b : LockedState). b.store.collections) c.self.view_is
