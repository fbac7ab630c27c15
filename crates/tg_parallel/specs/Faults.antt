-- Why a collection by several helpers is refused.
use Rattle.std.specs.Prelude.{◌≡◌, ◌≢◌, ℕ}
use Rattle.tg_space.specs.declared.room_fault.RoomFault.{RoomFault}
use Rattle.tg_space.specs.declared.room_fault.RoomFault.TheVariants as no_room
use Rattle.tg_parallel.specs.declared.fault.HelpersFault.{HelpersFault}
use Rattle.tg_parallel.specs.declared.fault.HelpersFault.TheVariants.{OutOfMemory, HeapFull, NoThread}

abbrev pub helpers_fault_of : RoomFault → HelpersFault
helpers_fault_of no_room.OutOfMemory = OutOfMemory
helpers_fault_of no_room.HeapFull = HeapFull

-- while so many threads are started, there may be no thread, but only where there is one to start, and no lack of room
pub record IsNotStarted (others : ℕ) (fault : HelpersFault) : Type 0 where
  pub not_full : fault ≢ HeapFull
  pub alone : others ≡ 0 → fault ≢ NoThread
