-- The effect of a batch of commands in the lock, and the knowledge of its session after it.
use Rattle.std.specs.Prelude.{◌≡◌, ◌≢◌, ℕ, ◌+◌, ◌<◌, List, ◌++◌, length, take}
use Rattle.tg_model.specs.declared.command.Command.{Command}
use Rattle.tg_journal.specs.declared.entry.Entry.{Entry}
use Rattle.tg_journal.specs.History.{IsLegal}
use Rattle.tg_passes.specs.declared.signed.Maker.TheVariants.{Session}
use Rattle.tg_passes.specs.declared.signed.Signed.{Signed}
use Rattle.tg_passes.specs.Passes.{Sees, sign_all}
use Rattle.tg_store.specs.Batch.{Applies, AreOfCommands, IsRefusedAt}
use Rattle.tg_store.specs.Store.{graph_of_store}
use Rattle.tg_store.specs.declared.batch.BatchFault.{BatchFault}
use Rattle.tg_store.specs.declared.batch.BatchFault.TheVariants.{Stopped, TooLong}
use Rattle.tg_store.specs.declared.fault.ApplyFault.{ApplyFault}
use Rattle.tg_store.specs.declared.fault.ApplyFault.TheVariants.{OutOfMemory}
use Rattle.tg_shared.specs.Sessions.{AddsReceipts, AtSeen, HasLooked, LockedState, SessionState, SharedStart, knowledge}

-- ---- in the lock

-- The commands of a session's subject were taken. Exactly the receipts of their entries were added, at the places of the entries. The
-- entries were noted as the session's, and a session that had seen all entries has seen these too.
pub record ServesAll (commands : List Command) (old new : LockedState) (before after : SessionState) : Type 0 where
  pub applies : Applies before.worker commands old.store new.store
  pub receipts : AddsReceipts before after (length old.store.entries) applies.made
  pub signed : new.signed ≡ old.signed ++ sign_all (Session before.worker) applies.made
  pub seen : before.seen ≡ old.signed → after.seen ≡ new.signed

-- The command at a place was refused. The commands before it were taken, and no others.
pub record StopsServingAt (commands : List Command) (old new : LockedState) (before after : SessionState) (done : ℕ) (why : ApplyFault) : Type 0 where
  pub served : ServesAll (take done commands) old new before after
  pub refused : IsRefusedAt before.worker commands new.store done why

-- A batch in the lock stops only at a command. Its length was checked before the lock was taken.
abbrev pub StopsServing : List Command → LockedState → LockedState → SessionState → SessionState → BatchFault → Type 0
StopsServing commands old new before after TooLong = ⊥
StopsServing commands old new before after (Stopped done why) = StopsServingAt commands old new before after done why

-- Exactly these entries of a session's subject were made, and exactly their receipts were added, at the places of the entries. They were
-- legal, one after the other, on the graph before. They were noted as the session's, and a session that had seen all entries has seen
-- these too.
pub record AddsInLock (entries : List Entry) (old new : LockedState) (before after : SessionState) : Type 0 where
  pub made : new.store.entries ≡ old.store.entries ++ entries
  pub legal : IsLegal (graph_of_store old.store) entries
  pub opening : new.store.opening ≡ old.store.opening
  pub collections : new.store.collections ≡ old.store.collections
  pub receipts : AddsReceipts before after (length old.store.entries) entries
  pub signed : new.signed ≡ old.signed ++ sign_all (Session before.worker) entries
  pub seen : before.seen ≡ old.signed → after.seen ≡ new.signed

-- ---- what a session knows

-- Exactly one receipt more for each of these entries, in their order, at places that follow one another. They came next after these
-- entries since the start, which the session sees: they begin with those that it had seen, and its own among them are exactly those that
-- it had made. Each new entry was legal on the graph after those before it: the reply is the rules' there. The session has then seen
-- them and the new ones.
pub record AddsAtSeen (start : SharedStart) (entries : List Entry) (old new : SessionState) : Type 0 where
  pub before : List Signed
  pub sees : Sees before (knowledge old)
  pub receipts : AddsReceipts old new (length start.entries + length before) entries
  pub legal : AtSeen start before (λ s. IsLegal (graph_of_store s) entries)
  pub seen : new.seen ≡ before ++ sign_all (Session old.worker) entries

-- Exactly one entry, with its receipt, for each of the commands, in their order.
pub record AnswersAll (start : SharedStart) (commands : List Command) (old new : SessionState) : Type 0 where
  pub entries : List Entry
  pub theirs : AreOfCommands old.worker commands entries
  pub added : AddsAtSeen start entries old new

-- A batch stopped at the command at a place. The commands before it were answered; if there is none, no receipt was added. The refusal
-- was due of a store with exactly the entries that the session has then seen, unless memory ran out.
pub record StopsAtCall (start : SharedStart) (commands : List Command) (old new : SessionState) (done : ℕ) (why : ApplyFault) : Type 0 where
  pub place : done < length commands
  pub none : done ≡ 0 → HasLooked old new
  pub some : 0 < done → AnswersAll start (take done commands) old new
  pub refused : why ≢ OutOfMemory → AtSeen start new.seen (λ s. IsRefusedAt old.worker commands s done why)

-- why a batch of a session was not done to its end, and the state that it leaves
abbrev pub StopsCalls : SharedStart → List Command → SessionState → SessionState → BatchFault → Type 0
StopsCalls start commands old new TooLong = new ≡ old
StopsCalls start commands old new (Stopped done why) = StopsAtCall start commands old new done why
