-- Batches of commands that a purse pays for: the effect in the lock, and the knowledge of the client's session after it.
use Rattle.std.specs.Prelude.{◌≡◌, ℕ, ◌<◌, List, Result, Ok, Err, if◌then◌else◌, length, nat_lt, take}
use Rattle.tg_model.specs.declared.command.Command.{Command}
use Rattle.tg_store.specs.declared.batch.BatchFault.{BatchFault}
use Rattle.tg_store.specs.declared.batch.BatchFault.TheVariants.{Stopped, TooLong}
use Rattle.tg_shared.specs.Batch.{AnswersAll, ServesAll, StopsCalls, StopsServing}
use Rattle.tg_shared.specs.Sessions.{HasLooked, LockedState, SessionState, SharedStart}
use Rattle.tg_shares.specs.declared.fault.Lack.TheVariants.{Entries}
use Rattle.tg_shares.specs.declared.fault.PaidCallsFault.{PaidCallsFault}
use Rattle.tg_shares.specs.declared.fault.PaidCallsFault.TheVariants.{Share, Store}
use Rattle.tg_shares.specs.declared.fault.ShareFault.{ShareFault}
use Rattle.tg_shares.specs.declared.purse.Portion.{Portion}

-- how many commands a batch did, to its end or before it stopped
abbrev pub commands_done : Result ℕ PaidCallsFault → ℕ
commands_done (Ok count) = count
commands_done (Err (Share done why)) = done
commands_done (Err (Store TooLong)) = 0
commands_done (Err (Store (Stopped done why))) = done

-- The fault that names a worker whose purse has no entry left.
abbrev pub no_entries : ℕ → ShareFault
no_entries worker = record { worker = worker; lacks = Entries }

-- The answer to a batch of so many commands, if the session's batch of those that the purse can pay for was answered so. If it was
-- done to its end and commands are left, the purse can't pay for the next one.
abbrev pub paid_answer : Result ℕ BatchFault → ℕ → ℕ → Result ℕ PaidCallsFault
paid_answer (Ok done) asked worker = if nat_lt done asked then Err (Share done (no_entries worker)) else Ok done
paid_answer (Err fault) asked worker = Err (Store fault)

-- ---- in the lock

-- The purse has no entry left for the command at a place. The commands before it were taken, and no others.
pub record LacksEntryAt (commands : List Command) (old new : LockedState) (before after : SessionState) (rest : Portion) (done : ℕ) (why : ShareFault) : Type 0 where
  pub place : done < length commands
  pub served : ServesAll (take done commands) old new before after
  pub spent : rest.entries ≡ 0
  pub named : why ≡ no_entries before.worker

-- why a batch in the lock stops, if this is left in the purse
abbrev pub StopsPaying : List Command → LockedState → LockedState → SessionState → SessionState → Portion → PaidCallsFault → Type 0
StopsPaying commands old new before after rest (Share done why) = LacksEntryAt commands old new before after rest done why
StopsPaying commands old new before after rest (Store fault) = StopsServing commands old new before after fault

-- ---- what a session knows

-- The purse had no entry left for the command at a place. The commands before it were answered. If there is none before it, no receipt
-- was added.
pub record StopsUnpaidCall (start : SharedStart) (commands : List Command) (old new : SessionState) (rest : Portion) (done : ℕ) (why : ShareFault) : Type 0 where
  pub place : done < length commands
  pub none : done ≡ 0 → HasLooked old new
  pub some : 0 < done → AnswersAll start (take done commands) old new
  pub spent : rest.entries ≡ 0
  pub named : why ≡ no_entries old.worker

-- why a batch of a client was not done to its end, if this is left in its purse
abbrev pub StopsPaidCalls : SharedStart → List Command → SessionState → SessionState → Portion → PaidCallsFault → Type 0
StopsPaidCalls start commands old new rest (Share done why) = StopsUnpaidCall start commands old new rest done why
StopsPaidCalls start commands old new rest (Store fault) = StopsCalls start commands old new fault
