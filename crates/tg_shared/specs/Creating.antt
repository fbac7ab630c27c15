-- What a batch of creates does in the lock, and what its session knows then.
use Rattle.std.specs.Prelude.{◌≡◌, ◌≢◌, ℕ, ◌+◌, ◌<◌, List, [], ◌∷◌, ◌++◌, Some, drop, length, slice_get, take}
use Rattle.tg_rights.specs.RightSet.{RightSet}
use Rattle.tg_model.specs.declared.command.Deed.TheVariants.{Create}
use Rattle.tg_model.specs.declared.reply.Reply.TheVariants.{Name, VerticesFull}
use Rattle.tg_model.specs.declared.value.Value.{Value}
use Rattle.tg_model.specs.Graph.{IsSubject}
use Rattle.tg_model.specs.Rules.{IsAllowed}
use Rattle.tg_word.specs.Word.{nursery_space}
use Rattle.tg_graph.specs.Heap.{nursery_of}
use Rattle.tg_rows.specs.Spots.{LacksCellsFor}
use Rattle.tg_journal.specs.declared.entry.Entry.{Entry}
use Rattle.tg_store.specs.Store.{StoreState, graph_of_store}
use Rattle.tg_store.specs.declared.fault.CreateFault.{CreateFault}
use Rattle.tg_store.specs.declared.fault.CreateFault.TheVariants as fault
use Rattle.tg_shared.specs.declared.creating.CreatesFault.{CreatesFault}
use Rattle.tg_shared.specs.declared.creating.CreatesFault.TheVariants.{Stopped, TooLong}
use Rattle.tg_shared.specs.Batch.{AddsAtSeen, AddsInLock}
use Rattle.tg_shared.specs.Sessions.{AtSeen, HasLooked, LockedState, SessionState, SharedStart}

-- The entries of vertices that a worker makes with these rights, one for each of the values, in their order. Their names follow one
-- another, from the first on.
abbrev pub creating : ℕ → RightSet → List Value → ℕ → List Entry
creating worker label [] first = []
creating worker label (v ∷ values) first =
    (record { worker = worker; deed = Create label v.law v.state; reply = Name first }) ∷ creating worker label values (first + 1)

-- The entry of a create that is refused: there is one if as many vertices were made as may be, and else none.
abbrev pub refusing : ℕ → RightSet → Value → CreateFault → List Entry
refusing worker label v fault.VerticesFull = (record { worker = worker; deed = Create label v.law v.state; reply = VerticesFull }) ∷ []
refusing worker label v fault.NoSuchWorker = []
refusing worker label v fault.WorkersFull = []
refusing worker label v fault.OutOfMemory = []
refusing worker label v fault.HeapFull = []

-- A create was refused of this store: there is no such worker, or a vertex may be made and a cell is lacking. Of a limit of vertices its
-- entry says more, and of a lack of memory no clause does. The limit of subjects is no reason.
pub record IsCreateRefused (worker : ℕ) (label : RightSet) (value : Value) (s : StoreState) (why : CreateFault) : Type 0 where
  pub no_such_worker : why ≡ fault.NoSuchWorker → ¬ IsSubject (graph_of_store s) worker
  pub full : why ≡ fault.HeapFull → IsAllowed (graph_of_store s) worker (Create label value.law value.state)
      × LacksCellsFor s.heap.table (nursery_space (nursery_of s.heap worker)) 1 worker (graph_of_store s).made
  pub no_workers_full : why ≢ fault.WorkersFull

-- ---- in the lock

-- A vertex was made for each of the values, and nothing else was done.
pub record MakesInLock (label : RightSet) (values : List Value) (old new : LockedState) (before after : SessionState) : Type 0 where
  pub first : ℕ
  pub added : AddsInLock (creating before.worker label values first) old new before after

-- The create of the value at a place was refused. A vertex was made for each value before it. It and those after it are left.
pub record StopsMakingAt (label : RightSet) (values left : List Value) (old new : LockedState) (before after : SessionState) (done : ℕ) (why : CreateFault) : Type 0 where
  pub refused : Value
  pub there : slice_get values done ≡ Some refused
  pub left_is : left ≡ drop done values
  pub first : ℕ
  pub added : AddsInLock (creating before.worker label (take done values) first ++ refusing before.worker label refused why) old new before after
  pub reason : IsCreateRefused before.worker label refused new.store why

-- a batch in the lock stops at a create alone: who asks has looked how long it is
abbrev pub StopsMaking : RightSet → List Value → List Value → LockedState → LockedState → SessionState → SessionState → CreatesFault → Type 0
StopsMaking label values left old new before after TooLong = ⊥
StopsMaking label values left old new before after (Stopped done why) = StopsMakingAt label values left old new before after done why

-- ---- what a session knows

-- A vertex was made for each of the values, with an entry and a receipt of its own, and nothing else was done.
pub record MakesAll (start : SharedStart) (label : RightSet) (values : List Value) (old new : SessionState) : Type 0 where
  pub first : ℕ
  pub added : AddsAtSeen start (creating old.worker label values first) old new

-- A batch stopped at the value at a place. A vertex was made for each value before it, with its entry and its receipt. If as many
-- vertices were made as may be, the refused create has them too. Without an entry no receipt was added. The refused value and those
-- after it are left. The refusal was due of a store with exactly the entries that the session has then seen, unless memory ran out.
pub record StopsAtCreate (start : SharedStart) (label : RightSet) (values left : List Value) (old new : SessionState) (done : ℕ) (why : CreateFault) : Type 0 where
  pub refused : Value
  pub there : slice_get values done ≡ Some refused
  pub left_is : left ≡ drop done values
  pub entries : List Entry
  pub first : ℕ
  pub theirs : entries ≡ creating old.worker label (take done values) first ++ refusing old.worker label refused why
  pub none : entries ≡ [] → HasLooked old new
  pub some : 0 < length entries → AddsAtSeen start entries old new
  pub reason : why ≢ fault.OutOfMemory → AtSeen start new.seen (λ s. IsCreateRefused old.worker label refused s why)

-- why a batch of creates of a session was not done to its end, and what it leaves
abbrev pub StopsCreates : SharedStart → RightSet → List Value → List Value → SessionState → SessionState → CreatesFault → Type 0
StopsCreates start label values left old new TooLong = (new ≡ old) × (left ≡ values)
StopsCreates start label values left old new (Stopped done why) = StopsAtCreate start label values left old new done why
