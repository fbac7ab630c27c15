-- What a leave leaves in the lock, and what its session knows then.
use Rattle.std.proofs.Common.{◌≡◌, ◌∙◌, ◌+◌, ◌<◌, ◌≤◌, ◌^◌, ◌++◌, ◌∷◌, [], ℕ, List, map, length, Err, Ok, ap, arith, refl, subst, sym}
use Rattle.std.proofs.lemmas.Result.{err_from_is_err_and}
use Rattle.tg_rights.specs.RightSet.{RightSet}
use Rattle.tg_model.specs.Graph.{ProtectionGraph, IsSubject, listing_of}
use Rattle.tg_journal.specs.declared.entry.Entry.{Entry}
use Rattle.tg_store.specs.declared.fault.ApplyFault.TheVariants.{NoSuchWorker}
use Rattle.tg_store.specs.Leaving.{HasLeft, removal, retiring}
use Rattle.tg_store.specs.Store.{StoreState, graph_of_store}
use Rattle.tg_shared.specs.Serving.{EndsWorker, HasNoted}
use Rattle.tg_shared.specs.Sessions.{LockedState, SessionState}
use Rattle.tg_shared.proofs.Balances.{goes_on_more, locked_as}
use Rattle.tg_shared.proofs.Calls.{ok_not_err}
use Rattle.tg_shared.proofs.Knowing.{gone_noted, noted_as, noted_before, noted_none, rolled_more, stays_gone}
use Rattle.tg_shared.proofs.Leavings.{entries_fit, gone_left, leaving_own, locked_left}
use Rattle.tg_shared.proofs.Replies.{ends}
use Rattle.tg_shared.proofs.locked.Locked.leave.Goals as goal

pub returns-in_err-count-clause-ended : goal.returns-in_err-count-clause-ended
returns-in_err-count-clause-ended g c =
    let given = err_from_is_err_and c.from_residual-in_err-count.result c.from_residual-in_err-count.ensures.1 in
    let told = c.in_err-count.ensures in
    subst (EndsWorker c.args.session.now.worker c.args.self.now.store c.leave.new.self) (sym (given.1 ∙ ap Err given.2))
    (subst (λ (b : LockedState). EndsWorker c.args.session.now.worker b.store c.leave.new.self (Err c.in_err-count.field-0.0)) c.self.view_is
    (ends c.self.inside.store c.leave.new.self c.worker-worker.result c.args.session.now.worker (Err c.in_err-count.field-0.0) c.worker-worker.ensures tt (λ _ _. tt) told.no_such_worker told.never_full told.refused))

pub returns-clause-ended : goal.returns-clause-ended
returns-clause-ended g c =
    let told = c.in_ok-count.ensures in
    subst (λ (b : LockedState). EndsWorker c.args.session.now.worker b.store c.leave.new.self (Ok c.in_ok-count.count)) c.self.view_is
    (ends c.self.inside.store c.leave.new.self c.worker-worker.result c.args.session.now.worker (Ok c.in_ok-count.count) c.worker-worker.ensures told.left told.count told.no_such_worker told.never_full tt)

room_for : (row count spare : ℕ) → count + 1 ≤ spare → count ≡ row → row < spare
room_for row count spare room is = omega arith

pub note_leaving-requires-clause-room : goal.note_leaving-requires-clause-room
note_leaving-requires-clause-room g c =
    room_for (length c.in_ok-row.row) (length c.as_slice.result.now) c.make_room_for.new.self.spare c.in_ok-make_room_for.ensures.spare (ap (λ (es : List (ℕ × RightSet)). length es) c.as_slice.ensures)

places_fit : (at before row count : ℕ) → at ≡ before → row ≡ count → before + (count + 1) < 2 ^ 64 → at + row < 2 ^ 64
places_fit at before row count here same fits = omega (arith, here, same, fits)

pub note_leaving-requires-clause-places : goal.note_leaving-requires-clause-places
note_leaving-requires-clause-places g c =
    let old = c.self.inside.store in
    let graph : ProtectionGraph = graph_of_store old in
    let row = length (listing_of graph.label graph.made c.worker-worker.result) in
    places_fit c.len-at.result (length old.entries) (length c.in_ok-row.row) row (c.len-at.ensures ∙ ap (λ (es : List Entry). length es) c.journal.ensures.entries) (ap (λ (es : List (ℕ × RightSet)). length es) (c.in_ok-row.ensures.edges graph refl))
    (entries_fit old c.leave.new.self c.worker-worker.result row c.len.result c.in_ok-count.ensures.left refl (c.len.ensures ∙ ap (λ (es : List Entry). length es) c.journal-2.ensures.entries) c.len.type_inv)

pub returns-clause-numbers : goal.returns-clause-numbers
returns-clause-numbers g c = record { sessions = ap (λ (b : LockedState). b.sessions) c.self.view_is; entered = ap (λ (b : LockedState). b.entered) c.self.view_is }

-- the entries of the leave, by the row that was read and by the session's name
left_as : (old new : StoreState) (x y : ℕ) (row : List (ℕ × RightSet)) → HasLeft x old new → x ≡ y → row ≡ listing_of (graph_of_store old).label (graph_of_store old).made x → new.entries ≡ old.entries ++ (map (removal y) row ++ retiring y ∷ [])
left_as old new x y row left named is = left.entries ∙ (λ i. old.entries ++ (map (removal (named i)) (sym is i) ++ retiring (named i) ∷ []))

pub note_leaving-requires-clause-still : goal.note_leaving-requires-clause-still
note_leaving-requires-clause-still g c = λ sees retired gone.
    ok_not_err c.in_ok-count.count NoSuchWorker ((c.in_ok-count.ensures.no_such_worker (graph_of_store c.self.inside.store) refl).1
    (subst (λ (w : ℕ). ¬ IsSubject (graph_of_store c.self.inside.store) w) (c.in_ok-make_room_for.ensures.receipts.0 ∙ sym c.worker-worker.ensures)
    (stays_gone g.L.Round.start c.self.inside.store c.self.inside.register.roll.signed c.self.invariant.0.3 c.journal.ensures.faithful c.self.invariant.1.grown c.make_room_for.new.self sees gone)))

pub note_leaving-requires-clause-gone : goal.note_leaving-requires-clause-gone
note_leaving-requires-clause-gone g c =
    let left : HasLeft c.worker-worker.result c.self.inside.store c.leave.new.self = c.in_ok-count.ensures.left in
    let ready : SessionState = c.make_room_for.new.self in
    let named : c.worker-worker.result ≡ ready.worker = c.worker-worker.ensures ∙ sym c.in_ok-make_room_for.ensures.receipts.0 in
    gone_noted g.L.Round.start c.self.inside.store c.leave.new.self c.self.inside.register.roll.signed ready.worker (map (removal ready.worker) c.in_ok-row.row) (retiring ready.worker) c.self.invariant.1.grown
    (left_as c.self.inside.store c.leave.new.self c.worker-worker.result ready.worker c.in_ok-row.row left named (c.in_ok-row.ensures.edges (graph_of_store c.self.inside.store) refl)) left.opening (leaving_own ready.worker c.in_ok-row.row) refl
    (goes_on_more c.self.inside.store c.leave.new.self _ left.entries left.opening g.L.Round.start c.self.invariant.0.3 left.limits (λ _. left.handed)) c.journal.ensures.faithful c.journal-2.ensures.faithful
    (subst (λ (x : ℕ). ¬ IsSubject (graph_of_store c.leave.new.self) x) named (gone_left c.self.inside.store c.leave.new.self c.worker-worker.result left))

pub returns-clause-signed : goal.returns-clause-signed
returns-clause-signed g c =
    let ready : SessionState = c.make_room_for.new.self in
    let keeps = c.in_ok-make_room_for.ensures.receipts in
    let named : c.worker-worker.result ≡ ready.worker = c.worker-worker.ensures ∙ sym keeps.0 in
    subst (λ (b : LockedState). HasNoted b (locked_as c.leave.new.self c.self.inside.sessions c.self.inside.entered c.note_leaving.new.register.roll.signed) c.args.session.now c.note_leaving.new.self) c.self.view_is
    (noted_before (locked_as c.self.inside.store c.self.inside.sessions c.self.inside.entered c.self.inside.register.roll.signed) (locked_as c.leave.new.self c.self.inside.sessions c.self.inside.entered c.note_leaving.new.register.roll.signed) c.args.session.now ready c.note_leaving.new.self keeps.0 keeps.5
    (noted_as (locked_as c.self.inside.store c.self.inside.sessions c.self.inside.entered c.self.inside.register.roll.signed) c.leave.new.self c.self.inside.sessions c.self.inside.entered ready c.note_leaving.new.self c.self.inside.register.roll c.note_leaving.new.register.roll (map (removal ready.worker) c.in_ok-row.row ++ retiring ready.worker ∷ []) refl
    (left_as c.self.inside.store c.leave.new.self c.worker-worker.result ready.worker c.in_ok-row.row c.in_ok-count.ensures.left named (c.in_ok-row.ensures.edges (graph_of_store c.self.inside.store) refl)) c.note_leaving.ensures.signed))

pub returns-in_err-row-clause-signed : goal.returns-in_err-row-clause-signed
returns-in_err-row-clause-signed g c =
    let v : LockedState = c.args.self.now in
    noted_none v v.store v.sessions v.entered v.signed c.args.session.now c.args.session.now refl refl refl

pub returns-in_err-make_room_for-clause-signed : goal.returns-in_err-make_room_for-clause-signed
returns-in_err-make_room_for-clause-signed g c =
    let v : LockedState = c.args.self.now in
    noted_none v v.store v.sessions v.entered v.signed c.args.session.now c.make_room_for.new.self refl refl c.in_err-make_room_for.ensures.receipts.5

pub returns-in_err-count-clause-signed : goal.returns-in_err-count-clause-signed
returns-in_err-count-clause-signed g c =
    subst (λ (b : LockedState). HasNoted b (locked_as c.leave.new.self c.self.inside.sessions c.self.inside.entered c.self.inside.register.roll.signed) c.args.session.now c.make_room_for.new.self) c.self.view_is
    (noted_none (locked_as c.self.inside.store c.self.inside.sessions c.self.inside.entered c.self.inside.register.roll.signed) c.leave.new.self c.self.inside.sessions c.self.inside.entered c.self.inside.register.roll.signed c.args.session.now c.make_room_for.new.self c.in_err-count.ensures.refused.entries refl c.in_ok-make_room_for.ensures.receipts.5)

pub invariant_of-self-2 : goal.invariant_of-self-2
invariant_of-self-2 g c =
    let graph : ProtectionGraph = graph_of_store c.self.inside.store in
    let row : c.in_ok-row.row ≡ listing_of graph.label graph.made c.worker-worker.result = c.in_ok-row.ensures.edges graph refl in
    let ready : SessionState = c.make_room_for.new.self in
    let named : c.worker-worker.result ≡ ready.worker = c.worker-worker.ensures ∙ sym c.in_ok-make_room_for.ensures.receipts.0 in (
      locked_left c.self.inside.store c.leave.new.self c.worker-worker.result c.in_ok-count.ensures.left g.L.Round.start (length g.L.Round.start.entries) c.self.inside.sessions c.self.inside.register.book.total c.note_leaving.new.register.book.total c.self.inside.rest.parts g.L.Ledger.parts c.self.invariant.0
          (c.note_leaving.ensures.book ∙ ap (λ (es : List (ℕ × RightSet)). c.self.inside.register.book.total + (length es + 1)) row) (c.self.invariant.0.2.0, c.self.invariant.0.2.1 ∙ sym c.in_ok-count.ensures.left.handed),
      rolled_more g.L.Round.start c.self.inside.store c.leave.new.self c.self.inside.register.roll c.note_leaving.new.register.roll ready.worker c.self.inside.entered _ c.self.invariant.1
          (left_as c.self.inside.store c.leave.new.self c.worker-worker.result ready.worker c.in_ok-row.row c.in_ok-count.ensures.left named row) c.in_ok-count.ensures.left.opening (leaving_own ready.worker c.in_ok-row.row) c.note_leaving.ensures.signed.roll,
    )
