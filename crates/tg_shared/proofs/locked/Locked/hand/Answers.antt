-- What a hand leaves in the lock, and what its session's receipts say of it.
use Rattle.std.proofs.Common.{◌≡◌, ◌∙◌, ◌++◌, ◌+◌, ◌<◌, ◌^◌, ℕ, List, Err, Ok, ap, arith, length, length-append, refl, subst, sym}
use Rattle.std.proofs.lemmas.Result.{err_from_is_err_and}
use Rattle.tg_model.specs.Graph.{IsSubject}
use Rattle.tg_journal.specs.declared.entry.Entry.{Entry}
use Rattle.tg_store.specs.declared.fault.ApplyFault.TheVariants.{NoSuchWorker}
use Rattle.tg_store.specs.declared.handing.Hand.{Hand}
use Rattle.tg_store.specs.Store.{StoreState, graph_of_store}
use Rattle.tg_shared.specs.Handing.{ServesHand, entries_handed, hand_by}
use Rattle.tg_shared.specs.Serving.{HasNoted}
use Rattle.tg_shared.specs.Sessions.{LockedState, SessionState}
use Rattle.tg_shared.proofs.Balances.{locked_as, locked_more}
use Rattle.tg_shared.proofs.Calls.{ok_not_err}
use Rattle.tg_shared.proofs.HandLaws.{entries_come, hand_refused, hand_served, handed_comes, limits_come, none_spawned, opening_comes, own_handed, stays_handed}
use Rattle.tg_shared.proofs.Knowing.{kept_all, noted_as, noted_none, rolled_more, stays_gone}
use Rattle.tg_shared.proofs.locked.Locked.hand.Goals as goal

pub returns-in_err-handed-clause-served : goal.returns-in_err-handed-clause-served
returns-in_err-handed-clause-served g c =
    let given = err_from_is_err_and c.from_residual.result c.from_residual.ensures.1 in
    let told = c.in_err-handed.ensures in
    let session : SessionState = c.args.session.now in
    let is : c.by-hand.result ≡ hand_by session.worker c.args.hand = c.by-hand.ensures ∙ ap (λ (n : ℕ). hand_by n c.args.hand) c.worker.ensures in
    subst (ServesHand c.args.hand c.args.self.now.store c.hand.new.self session session) (sym (given.1 ∙ ap Err given.2))
    (subst (λ (b : LockedState). ServesHand c.args.hand b.store c.hand.new.self session session (Err c.in_err-handed.field-0.0)) c.self.view_is
    (hand_refused c.args.hand c.by-hand.result c.self.inside.store c.hand.new.self session session c.in_err-handed.field-0.0 is (told.no_such_worker (graph_of_store c.self.inside.store) refl) told.full (told.refused, kept_all session)))

pub returns-in_err-handed-clause-signed : goal.returns-in_err-handed-clause-signed
returns-in_err-handed-clause-signed g c =
    subst (λ (b : LockedState). HasNoted b (locked_as c.hand.new.self c.self.inside.sessions c.self.inside.entered c.self.inside.register.roll.signed) c.args.session.now c.args.session.now) c.self.view_is
    (noted_none (locked_as c.self.inside.store c.self.inside.sessions c.self.inside.entered c.self.inside.register.roll.signed) c.hand.new.self c.self.inside.sessions c.self.inside.entered c.self.inside.register.roll.signed c.args.session.now c.args.session.now c.in_err-handed.ensures.refused.entries refl refl)

places_fit : (at before more all : ℕ) → at ≡ before → all ≡ before + more → all < 2 ^ 64 → at + more < 2 ^ 64
places_fit at before more all here long fits = omega (arith, here, long, fits)

pub note_hand-requires : goal.note_hand-requires
note_hand-requires g c =
    let old : StoreState = c.self.inside.store in
    let new : StoreState = c.hand.new.self in
    let h : Hand = c.by-hand.result in
    let more : List Entry = entries_handed h c.in_ok-handed.handed in
    let come = c.in_ok-handed.ensures.comes in
    let via : h.via ≡ c.args.session.now.worker = ap (λ (k : Hand). k.via) c.by-hand.ensures ∙ c.worker.ensures in
    let long = ap (λ (es : List Entry). length es) (entries_come h old new c.in_ok-handed.handed come) ∙ length-append old.entries more in
    record {
      own = via;
      room = c.requires.room;
      places = places_fit c.len-at.result (length old.entries) (length more) c.len.result (c.len-at.ensures ∙ ap (λ (es : List Entry). length es) c.journal.ensures.entries)
          (c.len.ensures ∙ ap (λ (es : List Entry). length es) c.journal-2.ensures.entries ∙ long) c.len.type_inv;
      stays = stays_handed h old new c.in_ok-handed.handed come;
      still = λ sees retired gone.
          ok_not_err c.in_ok-handed.handed NoSuchWorker ((c.in_ok-handed.ensures.no_such_worker (graph_of_store old) refl).1
          (subst (λ (w : ℕ). ¬ IsSubject (graph_of_store old) w) (sym via)
          (stays_gone g.L.Round.start old c.self.inside.register.roll.signed c.self.invariant.0.3 c.journal.ensures.faithful c.self.invariant.1.grown c.args.session.now sees gone)));
    }

pub returns-clause-served : goal.returns-clause-served
returns-clause-served g c =
    let session : SessionState = c.args.session.now in
    let old : StoreState = c.self.inside.store in
    let h : Hand = c.by-hand.result in
    let is : h ≡ hand_by session.worker c.args.hand = c.by-hand.ensures ∙ ap (λ (n : ℕ). hand_by n c.args.hand) c.worker.ensures in
    let place : c.len-at.result ≡ length old.entries = c.len-at.ensures ∙ ap (λ (es : List Entry). length es) c.journal.ensures.entries in
    subst (λ (b : LockedState). ServesHand c.args.hand b.store c.hand.new.self session c.note_hand.new.self (Ok c.in_ok-handed.handed)) c.self.view_is
    (hand_served c.args.hand h old c.hand.new.self session c.note_hand.new.self c.len-at.result c.in_ok-handed.handed is place c.in_ok-handed.ensures.comes c.note_hand.ensures.receipts (c.in_ok-handed.ensures.no_such_worker (graph_of_store old) refl))

pub returns-clause-signed : goal.returns-clause-signed
returns-clause-signed g c =
    let old : StoreState = c.self.inside.store in
    let h : Hand = c.by-hand.result in
    subst (λ (b : LockedState). HasNoted b (locked_as c.hand.new.self c.self.inside.sessions c.self.inside.entered c.note_hand.new.register.roll.signed) c.args.session.now c.note_hand.new.self) c.self.view_is
    (noted_as (locked_as old c.self.inside.sessions c.self.inside.entered c.self.inside.register.roll.signed) c.hand.new.self c.self.inside.sessions c.self.inside.entered c.args.session.now c.note_hand.new.self c.self.inside.register.roll c.note_hand.new.register.roll
    (entries_handed h c.in_ok-handed.handed) refl (entries_come h old c.hand.new.self c.in_ok-handed.handed c.in_ok-handed.ensures.comes) c.note_hand.ensures.signed)

pub invariant_of-self-2 : goal.invariant_of-self-2
invariant_of-self-2 g c =
    let start = g.L.Round.start in
    let old : StoreState = c.self.inside.store in
    let new : StoreState = c.hand.new.self in
    let h : Hand = c.by-hand.result in
    let handed = c.in_ok-handed.handed in
    let come = c.in_ok-handed.ensures.comes in
    let more : List Entry = entries_handed h handed in
    let entries = entries_come h old new handed come in
    let opening = opening_comes h old new handed come in
    let out = handed_comes h old new handed come in
    let via : h.via ≡ c.args.session.now.worker = ap (λ (k : Hand). k.via) c.by-hand.ensures ∙ c.worker.ensures in (
      locked_more old new more entries opening start (length start.entries) c.self.inside.sessions c.self.inside.register.book.total c.note_hand.new.register.book.total c.self.inside.rest.parts g.L.Ledger.parts c.self.invariant.0
          (none_spawned h handed) (limits_come h old new handed come) (λ _. out) c.note_hand.ensures.book (c.self.invariant.0.2.0, c.self.invariant.0.2.1 ∙ sym out),
      rolled_more start old new c.self.inside.register.roll c.note_hand.new.register.roll c.args.session.now.worker c.self.inside.entered more c.self.invariant.1 entries opening (own_handed c.args.session.now.worker h handed via) c.note_hand.ensures.signed.roll,
    )
