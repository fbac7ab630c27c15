-- What is asked for before helpers do a task.
use Rattle.std.specs.Prelude.{◌≡◌, ℕ, ◌≤◌, All, List}
use Rattle.tg_word.specs.declared.TheConstants.{MOST_SPACE_BLOCKS}
use Rattle.tg_space.specs.SpaceTable.{SpaceTable}
use Rattle.tg_space.specs.declared.root.Root.{Root}
use Rattle.tg_evac.specs.declared.plan.Plan.{Plan}
use Rattle.tg_race.specs.Race.{empty}
use Rattle.tg_race.specs.Seats.{Board, Seated}
use Rattle.tg_parallel.specs.declared.job.Job.{Job}
use Rattle.tg_parallel.specs.declared.job.Task.{Task}
use Rattle.tg_parallel.specs.declared.many.TheConstants.{MOST_HELPERS}
use Rattle.tg_parallel.specs.declared.part.Helped.{Helped}
use Rattle.tg_parallel.specs.Helping.{IsHelped, IsNew}
use Rattle.tg_parallel.specs.Jobs.{IsOpen, MayCollect}
use Rattle.tg_parallel.specs.Parts.{AreCountsOf}
use Rattle.tg_parallel.specs.Whole.{MayFinish}

-- as many helpers as there may be
pub record MayCollectBy {G : Type 0} (helpers : ℕ) (task : Task G) : Type 0 where
  pub sound : MayCollect task
  pub some : 1 ≤ helpers
  pub few : helpers ≤ MOST_HELPERS

-- a helper at the table that has done nothing yet, and may be split into so many
pub record IsNewSeat (helpers : ℕ) (board : Board) (s : Seated) : Type 0 where
  pub own : s.table ≡ board.table
  pub fresh : s.done ≡ empty helpers
  pub some : 1 ≤ helpers

-- the table is open for the job, and these helpers at it have done nothing yet
pub record MayStartAll {G : Type 0} (job : Job G) (others : List Seated) : Type 0 where
  pub table : IsOpen job
  pub fresh : All (IsNew job.table.now) others

-- what the helper that represents all has made at a table may be finished by a plan
pub record MayFinishAt (t : SpaceTable) (roots : List Root) (by : Plan) (board : Board) (made : Helped) : Type 0 where
  pub plan : MayFinish t roots by
  pub few : by.kept ≤ MOST_SPACE_BLOCKS
  pub counts : AreCountsOf by.kind t.spaces roots board.counts
  pub helped : IsHelped by.kind t roots board board.counts.helpers made
