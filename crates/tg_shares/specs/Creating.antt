-- Batches of creates that a purse pays for: the effect in the lock, and the knowledge of the client's session after it.
use Rattle.std.specs.Prelude.{◌≡◌, ℕ, ◌<◌, List, Result, Ok, Err, drop, length, take}
use Rattle.tg_rights.specs.RightSet.{RightSet}
use Rattle.tg_model.specs.declared.value.Value.{Value}
use Rattle.tg_shared.specs.declared.creating.CreatesFault.TheVariants.{Stopped, TooLong}
use Rattle.tg_shared.specs.Creating.{MakesAll, MakesInLock, StopsCreates, StopsMaking}
use Rattle.tg_shared.specs.Sessions.{HasLooked, LockedState, SessionState, SharedStart}
use Rattle.tg_shares.specs.declared.fault.PaidCreatesFault.{PaidCreatesFault}
use Rattle.tg_shares.specs.declared.fault.PaidCreatesFault.TheVariants.{Share, Store}
use Rattle.tg_shares.specs.declared.fault.ShareFault.{ShareFault}
use Rattle.tg_shares.specs.declared.purse.Portion.{Portion}
use Rattle.tg_shares.specs.Shares.{LacksToMake, entries_alone}

-- how many vertices a batch made, to its end or before it stopped
abbrev pub vertices_done : Result ℕ PaidCreatesFault → ℕ
vertices_done (Ok count) = count
vertices_done (Err (Share done why)) = done
vertices_done (Err (Store TooLong)) = 0
vertices_done (Err (Store (Stopped done why))) = done

-- The fault names the worker, and what its purse lacks for a vertex with its entry.
pub record LacksVertex (worker : ℕ) (purse : Portion) (why : ShareFault) : Type 0 where
  pub named : why.worker ≡ worker
  pub lacks : LacksToMake (entries_alone 0) purse why.lacks

-- ---- in the lock

-- The purse can't pay for the draft at a place. A vertex was made for each draft before it. It and the drafts after it are left.
pub record LacksVertexAt (label : RightSet) (values left : List Value) (old new : LockedState) (before after : SessionState) (rest : Portion) (done : ℕ) (why : ShareFault) : Type 0 where
  pub place : done < length values
  pub left_is : left ≡ drop done values
  pub made : MakesInLock label (take done values) old new before after
  pub lacking : LacksVertex before.worker rest why

-- why a batch of creates in the lock stops, if this is left in the purse
abbrev pub StopsMakingPaid : RightSet → List Value → List Value → LockedState → LockedState → SessionState → SessionState → Portion → PaidCreatesFault → Type 0
StopsMakingPaid label values left old new before after rest (Share done why) = LacksVertexAt label values left old new before after rest done why
StopsMakingPaid label values left old new before after rest (Store fault) = StopsMaking label values left old new before after fault

-- ---- what a session knows

-- The purse couldn't pay for the draft at a place. A vertex was made for each draft before it, with its entry and its receipt. If there
-- is none before it, no receipt was added. That draft and the drafts after it are left.
pub record StopsUnpaidCreate (start : SharedStart) (label : RightSet) (values left : List Value) (old new : SessionState) (rest : Portion) (done : ℕ) (why : ShareFault) : Type 0 where
  pub place : done < length values
  pub left_is : left ≡ drop done values
  pub none : done ≡ 0 → HasLooked old new
  pub some : 0 < done → MakesAll start label (take done values) old new
  pub lacking : LacksVertex old.worker rest why

-- why a client's batch of creates was not done to its end, if this is left in its purse
abbrev pub StopsPaidCreates : SharedStart → RightSet → List Value → List Value → SessionState → SessionState → Portion → PaidCreatesFault → Type 0
StopsPaidCreates start label values left old new rest (Share done why) = StopsUnpaidCreate start label values left old new rest done why
StopsPaidCreates start label values left old new rest (Store fault) = StopsCreates start label values left old new fault
