-- What the helpers of a collection share, and what is asked of each and promised.
use Rattle.std.specs.Prelude.{◌≡◌, ℕ, List, Result}
use Rattle.tg_space.specs.SpaceTable.{SpaceTable}
use Rattle.tg_space.specs.Soundness.{AreSound}
use Rattle.tg_space.specs.declared.copied.Copied.{Copied}
use Rattle.tg_space.specs.declared.kind.Kind.{Kind}
use Rattle.tg_space.specs.declared.root.Root.{Root}
use Rattle.tg_space.specs.declared.room_fault.RoomFault.{RoomFault}
use Rattle.tg_evac.specs.declared.copies.Copies.{Copies}
use Rattle.tg_evac.specs.Collects.{CollectsRoots}
use Rattle.tg_race.specs.Seats.{Board}
use Rattle.tg_parallel.specs.declared.job.Job.{Job}
use Rattle.tg_parallel.specs.declared.job.Task.{Task}
use Rattle.tg_parallel.specs.declared.job.Newcomer.{Newcomer}
use Rattle.tg_parallel.specs.declared.part.Helped.{Helped}
use Rattle.tg_parallel.specs.Helping.{AllHelped, IsHelped, IsNew}
use Rattle.tg_parallel.specs.Parts.{AreEarned, AreOnce, IsOpenedFor}
use Rattle.tg_parallel.specs.Seats.{HasCopied, HasWorked, HasWorkedAll, MayBegin, MayWork, Sitting}

-- the spaces and roots of the task may be collected
abbrev pub MayCollect : {G : Type 0} → Task G → Type 0
MayCollect task = AreSound task.spaces.now.spaces task.roots.now

-- what its helpers made is its collection; the first says what lack of room is told by
abbrev pub IsCollected : {G E : Type 0} → E → Task G → ℕ → Result Copied E → Type 0
IsCollected heap_full task helpers result = CollectsRoots heap_full task.kind task.spaces.now task.roots.now helpers helpers result

-- the table of the job was opened for its task
abbrev pub IsOpen : {G : Type 0} → Job G → Type 0
IsOpen job = IsOpenedFor job.task.kind job.task.spaces.now.spaces job.task.roots.now job.table.now.counts

-- the helper has done nothing yet, and is one for a job of this kind
pub record MayHelp {G : Type 0} (job : Job G) (kind : Kind) (newcomer : Newcomer) : Type 0 where
  pub same : kind ≡ job.task.kind
  pub table : IsOpen job
  pub new : IsNew job.table.now newcomer.helper

-- a helper has done its work, and has claimed no block twice
pub record IsHelpedOnce (kind : Kind) (t : SpaceTable) (from : List Root) (board : Board) (r : Helped) : Type 0 where
  pub helped : IsHelped kind t from board 1 r
  pub once : AreOnce r.helper.done.aged_blocks × AreOnce r.helper.done.old_blocks

-- helpers of so many shares have done the work of a job
abbrev pub IsDone : {G : Type 0} → Job G → ℕ → Helped → Type 0
IsDone job shares r = IsHelped job.task.kind job.task.spaces.now job.task.roots.now job.table.now shares r

abbrev pub HasHelped : {G : Type 0} → Job G → Helped → Type 0
HasHelped job r = IsHelpedOnce job.task.kind job.task.spaces.now job.task.roots.now job.table.now r

-- the helper on the calling thread, and so many others
abbrev pub AllDone : {G : Type 0} → Job G → ℕ → Helped → List Helped → Type 0
AllDone job others mine theirs = AllHelped job.task.kind job.task.spaces.now job.task.roots.now job.table.now others mine theirs

-- ---- a seat at the table of a job

abbrev pub SitsAt : {G : Type 0} → Job G → Sitting → Type 0
SitsAt job s = MayWork job.task.kind job.task.spaces.now.spaces job.task.roots.now s

abbrev pub MayBeginAt : {G : Type 0} → Job G → Sitting → Type 0
MayBeginAt job s = MayBegin job.task.kind job.task.spaces.now.spaces job.task.roots.now s

abbrev pub HasEarned : {G : Type 0} → Job G → Sitting → Type 0
HasEarned job s = AreEarned job.task.kind job.task.spaces.now.spaces job.task.roots.now s.done

abbrev pub HasCopiedAt : {G : Type 0} → Job G → List ℕ → Sitting → Copies → Type 0
HasCopiedAt job chunks s copies = HasCopied job.task.kind job.task.spaces.now.spaces job.task.roots.now chunks s copies.scanned copies.aged copies.old

abbrev pub HasDone : {G T : Type 0} → Job G → Sitting → Sitting → Result T RoomFault → Type 0
HasDone job before after result = HasWorked job.task.kind job.task.spaces.now.spaces job.task.roots.now before after result

abbrev pub HasDoneAll : {G : Type 0} → Job G → Sitting → Sitting → Result Copies RoomFault → Type 0
HasDoneAll job before after result = HasWorkedAll job.task.kind job.task.spaces.now.spaces job.task.roots.now before after result
