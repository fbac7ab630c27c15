-- The effects of the calls in the lock. Each effect is defined once, for the call itself and for the session or keeper that makes
-- it.
use Rattle.std.specs.Prelude.{◌≡◌, ◌≢◌, ◌↔◌, ◌⊎◌, ◌<◌, ◌≤◌, ℕ, List, [], ◌∷◌, ◌++◌, Result, Err, IfErr, IfOk, IsErrAnd, OnErr, OnOk, drop, length}
use Rattle.tg_rights.specs.RightSet.{RightSet}
use Rattle.tg_model.specs.declared.command.Command.{Command}
use Rattle.tg_model.specs.declared.command.Deed.{Deed}
use Rattle.tg_model.specs.declared.command.Deed.TheVariants.{Plain, Spawn}
use Rattle.tg_model.specs.declared.opening.TheConstants.{MAX_WORKERS}
use Rattle.tg_model.specs.declared.reply.Denial.{Denial}
use Rattle.tg_model.specs.declared.reply.Reply.{Reply}
use Rattle.tg_model.specs.declared.reply.Reply.TheVariants.{Denied, Name, VerticesFull, WorkersFull}
use Rattle.tg_model.specs.declared.value.Value.{Value}
use Rattle.tg_model.specs.Graph.{ProtectionGraph, IsSubject, listing_of}
use Rattle.tg_model.specs.Rules.{IsAllowed, answer_of, step}
use Rattle.tg_journal.specs.declared.entry.Entry.{Entry}
use Rattle.tg_passes.specs.declared.signed.Maker.TheVariants.{Keeper, Session}
use Rattle.tg_passes.specs.Passes.{PassState, RollState, Sees, sign_all}
use Rattle.tg_graph.specs.Heap.{nursery_of}
use Rattle.tg_rules.specs.Effect.{AddsEdge, LacksCellsToServe}
use Rattle.tg_space.specs.declared.kind.Kind.{Kind}
use Rattle.tg_store.specs.Collecting.{IsSwept, KeepsHistory}
use Rattle.tg_store.specs.Leaving.{HasLeft, leaving}
use Rattle.tg_store.specs.Made.{IsMadeFor}
use Rattle.tg_store.specs.declared.fault.ApplyFault.{ApplyFault}
use Rattle.tg_store.specs.declared.fault.ApplyFault.TheVariants.{HeapFull, NoSuchWorker}
use Rattle.tg_store.specs.declared.fault.CreateFault.TheVariants as fault
use Rattle.tg_store.specs.declared.fault.CreateRefused.{CreateRefused}
use Rattle.tg_store.specs.Store.{StoreState, HasFewBlocks, IsUnchanged, StandsFor, graph_of_store}
use Rattle.tg_shared.specs.Sessions.{AddsReceipts, HoldsWhenFree, IsFresh, KeeperState, KeepsReceipts, LockedState, Records, RecordsNothing, SessionState, SharedStart}

-- ---- looking at the value in the lock

-- A session or keeper with this knowledge of the entries since the start looked at all of them, and sees them. The value in the
-- lock is as it was, and the facts that hold whenever the lock is free hold of it.
pub record IsLookedAt (start : SharedStart) (old new : LockedState) (pass : PassState) : Type 0 where
  pub held : HoldsWhenFree start old
  pub sees : Sees old.signed pass
  pub same : new ≡ old

-- ---- the parts of the value in the lock that stay

-- no session was made, and the keeper made no entry
pub record KeepsNumbers (old new : LockedState) : Type 0 where
  pub sessions : new.sessions ≡ old.sessions
  pub entered : new.entered ≡ old.entered

-- These entries come after all others in the roll, as the session's, which has then seen all.
pub record Signs (all next : RollState) (before after : SessionState) (entries : List Entry) : Type 0 where
  pub roll : next ≡ record { signed = all.signed ++ sign_all (Session before.worker) entries; below = all.below }
  pub seen : after.seen ≡ next.signed

-- The entry of a deed of the session, with this reply, comes after all others in the roll.
abbrev pub SignsDeed : RollState → RollState → SessionState → SessionState → Deed → Reply → Type 0
SignsDeed all next before after deed reply = Signs all next before after (record { worker = before.worker; deed = deed; reply = reply } ∷ [])

-- the entries that the store got
abbrev pub entries_more : LockedState → LockedState → List Entry
entries_more old new = drop (length old.store.entries) new.store.entries

-- A session's call noted the entries that the store got as the session's. A session that made an entry has then seen all entries.
pub record HasNoted (old new : LockedState) (before after : SessionState) : Type 0 where
  pub signed : new.signed ≡ old.signed ++ sign_all (Session before.worker) (entries_more old new)
  pub seen : after.made ≢ before.made → after.seen ≡ new.signed

-- The keeper noted the entries that the store got in one of its calls as its own, and has then seen all. The call is an end, a
-- withdrawal, a parking or an unparking.
pub record HasNotedEnd (old new : LockedState) (before after : KeeperState) : Type 0 where
  pub signed : new.signed ≡ old.signed ++ sign_all Keeper (entries_more old new)
  pub made : after.made ≡ before.made ++ entries_more old new
  pub seen : after.seen ≡ new.signed
  pub next : after.next ≡ before.next

-- The parts that stay after a session's command, whatever its outcome.
pub record KeepsRound (old new : LockedState) : Type 0 where
  pub opening : new.store.opening ≡ old.store.opening
  pub handed : new.store.handed ≡ old.store.handed
  pub limits : new.store.heap.table.limits ≡ old.store.heap.table.limits
  pub numbers : KeepsNumbers old new

-- ---- commands

-- A command of a session's subject. If it is served, exactly one entry and one receipt are added, with the reply of the rules on
-- the graph that the store represented. A denial is a reply that changes nothing else. If it is refused, nothing is changed.
pub record ServesCommand {T : Type 0} (command : Command) (old new : StoreState) (before after : SessionState) (result : Result T ApplyFault) : Type 0 where
  pub entry : (g : ProtectionGraph) → StandsFor old g → OnOk result (Records old new before after (Plain command) (answer_of g before.worker (Plain command)))
  pub step : (g : ProtectionGraph) → StandsFor old g → OnOk result (StandsFor new (step g before.worker (Plain command)))
  pub denied : (g : ProtectionGraph) (denial : Denial) → StandsFor old g → answer_of g before.worker (Plain command) ≡ Denied denial → OnOk result (new.heap ≡ old.heap)
  pub no_such_worker : (g : ProtectionGraph) → StandsFor old g → (result ≡ Err NoSuchWorker) ↔ (¬ IsSubject g before.worker)
  pub full : (g : ProtectionGraph) → StandsFor old g → result ≡ Err HeapFull →
      IsAllowed g before.worker (Plain command) × AddsEdge command × LacksCellsToServe old.heap.table (nursery_of old.heap before.worker) before.worker command
  pub refused : OnErr result (RecordsNothing old new before after)

-- ---- vertices

-- A vertex was made for a session's subject by a deed. The store has its entry, and the session has its receipt.
pub record IsMadeAndNoted (deed : Deed) (label : RightSet) (value : Value) (old new : StoreState) (before after : SessionState) (name : ℕ) : Type 0 where
  pub entry : Records old new before after deed (Name name)
  pub made : IsMadeFor deed before.worker label value old new name

-- A subject was made by a spawn, with its session, which is fresh.
abbrev pub IsSpawnedAndNoted : RightSet → Value → StoreState → StoreState → SessionState → SessionState → SessionState → Type 0
IsSpawnedAndNoted label value old new before after fresh = IsFresh fresh × IsMadeAndNoted (Spawn label value.law value.state) label value old new before after fresh.worker

-- The notes on a vertex that was not made. An entry and a receipt are noted if the limit of vertices or the limit of active
-- subjects is reached, and the heap stays. Else nothing is noted.
pub record NotesRefusal {P T : Type 0} (deed : Deed) (old new : StoreState) (before after : SessionState) (result : Result T (CreateRefused P)) : Type 0 where
  pub no_more_entry : IfErr result (λ refused. refused.why ≡ fault.VerticesFull → Records old new before after deed VerticesFull × (new.heap ≡ old.heap))
  pub too_many_entry : IfErr result (λ refused. refused.why ≡ fault.WorkersFull → Records old new before after deed WorkersFull × (new.heap ≡ old.heap))
  pub refused : IfErr result (λ refused. refused.why ≢ fault.VerticesFull → refused.why ≢ fault.WorkersFull → RecordsNothing old new before after)

-- The worker is a subject, and a vertex may still be made, but as many subjects are active as may be.
abbrev pub IsCrowdedFor : ProtectionGraph → ℕ → Type 0
IsCrowdedFor g worker = IsSubject g worker × (g.made < g.limit) × (MAX_WORKERS ≤ length g.subjects)

-- `WorkersFull` refuses a worker's spawn only if as many subjects are active as may be. Then only lack of memory can refuse it
-- otherwise.
pub record RefusesCrowd {P T : Type 0} (worker : ℕ) (old : StoreState) (result : Result T (CreateRefused P)) : Type 0 where
  pub too_many : (g : ProtectionGraph) → StandsFor old g → IfErr result (λ refused. refused.why ≡ fault.WorkersFull → IsCrowdedFor g worker)
  pub crowded : (g : ProtectionGraph) → StandsFor old g → IsCrowdedFor g worker → IsErrAnd result (λ refused. (refused.why ≡ fault.WorkersFull) ⊎ (refused.why ≡ fault.OutOfMemory))

-- ---- leaving

-- A worker's end, whether it leaves or is ended. Either it has left the store, and gave up so many edges. Or nothing was changed,
-- because there was no such worker, or memory ran out.
pub record EndsWorker (worker : ℕ) (old new : StoreState) (result : Result ℕ ApplyFault) : Type 0 where
  pub left : OnOk result (HasLeft worker old new)
  pub count : (g : ProtectionGraph) → StandsFor old g → IfOk result (λ count. count ≡ length (listing_of g.label g.made worker))
  pub no_such_worker : (g : ProtectionGraph) → StandsFor old g → (result ≡ Err NoSuchWorker) ↔ (¬ IsSubject g worker)
  pub never_full : result ≢ Err HeapFull
  pub unchanged : OnErr result (IsUnchanged old new)

-- The notes on a session's leave. They are the receipts of exactly its entries, or none if the leave is refused.
pub record NotesLeaving (old : StoreState) (before after : SessionState) (result : Result ℕ ApplyFault) : Type 0 where
  pub receipts : OnOk result (AddsReceipts before after (length old.entries) (leaving (graph_of_store old) before.worker))
  pub refused : OnErr result (KeepsReceipts before after)

-- ---- collecting

-- A collection after which each space may have so many more blocks than one helper leaves. It leaves a swept store, and keeps both
-- numbers. If it is refused, all stays.
pub record Collects {E : Type 0} (kind : Kind) (more : ℕ) (old new : LockedState) (result : Result ℕ E) : Type 0 where
  pub swept : IfOk result (IsSwept kind old.store new.store)
  pub blocks : OnOk result (HasFewBlocks kind more old.store.heap.table new.store.heap.table)
  pub history : KeepsHistory old.store new.store result
  pub refused : OnErr result (new ≡ old)
  pub numbers : KeepsNumbers old new
  pub signed : new.signed ≡ old.signed
