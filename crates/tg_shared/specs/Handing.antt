-- The outcome of a hand, by which a session's subject hands rights on, and the knowledge of its session after it.
use Rattle.std.specs.Prelude.{◌≡◌, ◌↔◌, ℕ, ◌+◌, List, [], ◌∷◌, ◌++◌, Result, Err, IfOk, OnErr, length}
use Rattle.tg_model.specs.declared.command.Deed.TheVariants.{Plain}
use Rattle.tg_model.specs.declared.reply.Reply.TheVariants as reply
use Rattle.tg_model.specs.Graph.{IsSubject}
use Rattle.tg_journal.specs.declared.entry.Entry.{Entry}
use Rattle.tg_passes.specs.declared.signed.Maker.TheVariants.{Session}
use Rattle.tg_passes.specs.declared.signed.Signed.{Signed}
use Rattle.tg_passes.specs.Passes.{Sees, sign_all}
use Rattle.tg_store.specs.Handing.{ComesOfHand, LacksCellsToHand, entries_of_hand}
use Rattle.tg_store.specs.Store.{StoreState, graph_of_store}
use Rattle.tg_store.specs.declared.fault.ApplyFault.{ApplyFault}
use Rattle.tg_store.specs.declared.fault.ApplyFault.TheVariants.{HeapFull, NoSuchWorker}
use Rattle.tg_store.specs.declared.handing.Hand.{Hand}
use Rattle.tg_store.specs.declared.handing.Handed.{Handed}
use Rattle.tg_store.specs.declared.handing.Handed.TheVariants.{Done, Denied}
use Rattle.tg_shared.specs.declared.handing.OwnHand.{OwnHand}
use Rattle.tg_shared.specs.Sessions.{AddsReceipts, AtSeen, HasLooked, IsNobodyAtSeen, RecordsNothing, SessionState, SharedStart, knowledge}

-- the hand that this worker asks the store for
abbrev pub hand_by : ℕ → OwnHand → Hand
hand_by worker h = record { via = worker; from = h.from; to = h.to; target = h.target; rights = h.rights }

-- The entries that a hand made. They are the take, the grant and maybe a remove, or the one command that was denied.
abbrev pub entries_handed : Hand → Handed → List Entry
entries_handed h (Done back) = entries_of_hand h back
entries_handed h (Denied command denial) = (record { worker = h.via; deed = Plain command; reply = reply.Denied denial }) ∷ []

-- ---- in the lock

-- A session's subject asked the store for a hand. If it was done or denied, exactly the receipts of its entries were added, at the
-- places of the entries. If it was refused, nothing changed.
pub record ServesHand (hand : OwnHand) (old new : StoreState) (before after : SessionState) (result : Result Handed ApplyFault) : Type 0 where
  pub comes : IfOk result (ComesOfHand (hand_by before.worker hand) old new)
  pub receipts : IfOk result (λ handed. AddsReceipts before after (length old.entries) (entries_handed (hand_by before.worker hand) handed))
  pub no_such_worker : (result ≡ Err NoSuchWorker) ↔ (¬ IsSubject (graph_of_store old) before.worker)
  pub full : result ≡ Err HeapFull → LacksCellsToHand (hand_by before.worker hand) old
  pub refused : OnErr result (RecordsNothing old new before after)

-- ---- the knowledge of a session

-- A session's subject handed rights on, or one command of the hand was denied. Exactly the receipts of its entries were added, at
-- places that follow one another. The new entries came next after these entries since the start, which the session sees. So these
-- entries begin with the entries that it had seen, and its own entries among them are exactly the entries that it had made. The
-- hand made a store that may have been in the lock next out of a store that may have been in the lock then. The session has then
-- seen the entries before and the new entries.
pub record HandsAtSeen (start : SharedStart) (hand : OwnHand) (old new : SessionState) (handed : Handed) : Type 0 where
  pub before : List Signed
  pub sees : Sees before (knowledge old)
  pub receipts : AddsReceipts old new (length start.entries + length before) (entries_handed (hand_by old.worker hand) handed)
  pub came : AtSeen start before (λ s. AtSeen start new.seen (λ next. ComesOfHand (hand_by old.worker hand) s next handed))
  pub seen : new.seen ≡ before ++ sign_all (Session old.worker) (entries_handed (hand_by old.worker hand) handed)

-- Why a session's hand is refused. The first two reasons are reasons of a store with exactly the entries that the session has then
-- seen. Either it had no such worker, or it allowed the hand and lacked a cell, or memory ran out. The receipts are as they were.
pub record RefusesHand (start : SharedStart) (hand : OwnHand) (old new : SessionState) (why : ApplyFault) : Type 0 where
  pub looked : HasLooked old new
  pub no_such_worker : why ≡ NoSuchWorker → IsNobodyAtSeen start new.seen old.worker
  pub full : why ≡ HeapFull → AtSeen start new.seen (LacksCellsToHand (hand_by old.worker hand))
