-- How a round ends, or does not.
use Rattle.std.specs.Prelude.{◌≡◌, ◌<◌, ◌≤◌, ◌+◌, ℕ, List, Result, IfErr, IfOk, IsErrAnd, OnOk, length}
use Rattle.std.specs.List.{All}
use Rattle.std.specs.List.Sorted.{IsPermutation}
use Rattle.tg_passes.specs.declared.signed.Maker.TheVariants.{Keeper}
use Rattle.tg_passes.specs.declared.signed.Signed.{Signed}
use Rattle.tg_passes.specs.Passes.{Sees, entries_by}
use Rattle.tg_store.specs.Store.{StoreState, IsFaithful}
use Rattle.tg_shared.specs.declared.closing.CloseFault.TheVariants.{ReceiptMismatch, SessionsMissing}
use Rattle.tg_shared.specs.declared.closing.LockedRefused.{LockedRefused}
use Rattle.tg_shared.specs.declared.shared.CloseRefused.{CloseRefused}
use Rattle.tg_shared.specs.Sessions.{AtSome, GoesOn, HasAllUnlessEnded, HasGrownBy, LockedState, MayCloseWith, SessionState, SharedStart, count_of, handed_of, knowledge, parts_of, sessions_made, since, subjects_at}

-- The store that comes back is the shared one, with later entries, and keeps its promise. The receipts match its journal, which has grown
-- by as many entries at least.
pub record IsGivenBack (start : SharedStart) (sessions : List SessionState) (store : StoreState) : Type 0 where
  pub matching : MayCloseWith start store sessions
  pub at_least : length start.entries + handed_of sessions + count_of sessions ≤ length store.entries
  pub faithful : IsFaithful store
  pub gone_on : GoesOn start store

-- These are the entries that the store got since it was shared, with the maker of each. Each session sees them. So it made exactly
-- its own entries among them, and they begin with the entries that it has seen.
pub record IsSignedBy (start : SharedStart) (store : StoreState) (sessions : List SessionState) (signed : List Signed) : Type 0 where
  pub grown : HasGrownBy start store signed
  pub sees : All (λ s. Sees signed (knowledge s)) sessions

-- The shared store was in the lock, with later entries. It is handed out if the receipts are right. Else the locked value and the
-- sessions come back, perhaps in another order. If the store is handed out, it is known who made each entry since the start. Take a
-- single session that handed out no receipt and took over nobody, and whose worker the keeper did not end. It has receipts of all
-- entries of its worker.
pub record EndsRound {L P : Type 0} (start : SharedStart) (locked : LockedState) (sessions : List SessionState) (result : Result StoreState (LockedRefused L P)) : Type 0 where
  pub gone_on : GoesOn start locked.store
  pub store : IfOk result (λ store. store ≡ locked.store)
  pub matching : OnOk result (MayCloseWith start locked.store sessions)
  pub single : OnOk result (All (HasAllUnlessEnded (entries_by Keeper locked.signed) (since start locked.store)) sessions)
  pub signed : OnOk result (IsSignedBy start locked.store sessions locked.signed)
  pub handed_back : IfErr result (λ refused. (refused.locked ≡ locked) × IsPermutation sessions refused.sessions.items)

-- The sessions may not close with some journal that may have been in the lock. It has at least so many entries, and one for each of
-- their receipts.
abbrev pub MismatchAtSome : SharedStart → ℕ → List SessionState → Type 0
MismatchAtSome start least sessions = AtSome start (λ s. (least + count_of sessions ≤ length s.entries) × (¬ MayCloseWith start s sessions))

-- A close hands the store out only if no session is missing. If it refuses, some journal that may have been in the lock has the
-- reason, and the sessions come back, perhaps in another order. Beside the receipts the journal has at least so many entries.
pub record ClosesAll {L P : Type 0} (start : SharedStart) (least : ℕ) (sessions : List SessionState) (result : Result StoreState (CloseRefused L P)) : Type 0 where
  pub all : IfOk result (λ store. parts_of sessions ≡ sessions_made start store.entries)
  pub missing : IfErr result (λ refused. refused.why ≡ SessionsMissing → AtSome start (λ s. parts_of sessions < sessions_made start s.entries))
  pub too_few : parts_of sessions < length (subjects_at start) → IsErrAnd result (λ refused. refused.why ≡ SessionsMissing)
  pub mismatch : IfErr result (λ refused. refused.why ≡ ReceiptMismatch → MismatchAtSome start least sessions)
  pub handed_back : IfErr result (λ refused. IsPermutation sessions refused.sessions.items)
