-- A run over a file: its replies, and what a crash leaves of them.
use Rattle.std.specs.Prelude.{◌≡◌, ℕ, Bool, List}
use Rattle.sqlite_disk.specs.declared.Disk as disk
use Rattle.tg_space.specs.SpaceTable.{BlockLimits}
use Rattle.tg_store.specs.Store.{StoreState}
use Rattle.tg_kept.specs.Reopening.{OpensAs}
use Rattle.tg_kept.specs.Runs.{LeavesAnsweredBatches, ServesInTurn}
use Rattle.tg_kept.specs.declared.lost.Lost.{Lost}
use Rattle.tg_kept.specs.declared.run.AskedBatch.{AskedBatch}
use Rattle.tg_filed.specs.Refused.{RefusesFileAt}
use Rattle.tg_filed.specs.declared.fault.RunFault.{RunFault}
use Rattle.tg_filed.specs.declared.fault.RunFault.TheVariants as fault

-- The first store has exactly the opening and the entries that the bytes say. Each batch made of it what its commands make, one after
-- the other.
pub record ServesFrom (is_clean : Bool) (bytes : List ℕ) (limits : BlockLimits) (batches : List AskedBatch) (new : StoreState) : Type 0 where
  pub first : StoreState
  pub opened : OpensAs is_clean bytes limits first
  pub served : ServesInTurn batches first new

-- The first store is as before. Each content that a crash may leave says the history after the batches that were answered, and a front
-- of entries that are legal there.
pub record LosesFile {D : Type 0} (g : disk.Ghosts D) (bytes : List ℕ) (limits : BlockLimits) (batches : List AskedBatch) (answered : ℕ) (lost : Lost D) : Type 0 where
  pub first : StoreState
  pub opened : OpensAs (g.is_clean lost.disk) bytes limits first
  pub left : LeavesAnsweredBatches g batches answered first lost.disk

-- why a run ends early. If no store was opened, nothing was answered
abbrev pub EndsRun : {D : Type 0} → disk.Ghosts D → List ℕ → BlockLimits → List AskedBatch → ℕ → RunFault D → Type 0
EndsRun g bytes limits batches answered (fault.Open why) = RefusesFileAt g bytes limits why × (answered ≡ 0)
EndsRun g bytes limits batches answered (fault.Lost lost) = LosesFile g bytes limits batches answered lost
