-- How refusals of the heap are told to the store's callers, and which drafts aren't those of an opening.
use Rattle.std.specs.Prelude.{◌≡◌, ◌≢◌, ℕ, List, take, slice_get}
use Rattle.tg_model.specs.declared.value.Value.{Value}
use Rattle.tg_journal.specs.declared.replay.AuditFault.{AuditFault}
use Rattle.tg_journal.specs.declared.replay.AuditFault.TheVariants as audit
use Rattle.tg_space.specs.declared.room_fault.RoomFault.{RoomFault}
use Rattle.tg_space.specs.declared.room_fault.RoomFault.TheVariants as no_room
use Rattle.tg_store.specs.declared.fault.OpenFault.{OpenFault}
use Rattle.tg_store.specs.declared.fault.OpenFault.TheVariants as opened
use Rattle.tg_store.specs.declared.fault.ReopenFault.{ReopenFault}
use Rattle.tg_store.specs.declared.fault.ReopenFault.TheVariants as again
use Rattle.tg_store.specs.declared.fault.ApplyFault.{ApplyFault}
use Rattle.tg_store.specs.declared.fault.ApplyFault.TheVariants as apply
use Rattle.tg_store.specs.declared.fault.CreateFault.{CreateFault}
use Rattle.tg_store.specs.declared.fault.CreateFault.TheVariants as create
use Rattle.tg_store.specs.declared.fault.StoreAuditFault.{StoreAuditFault}
use Rattle.tg_store.specs.declared.fault.StoreAuditFault.TheVariants as own

abbrev pub open_fault_of : RoomFault → OpenFault
open_fault_of no_room.OutOfMemory = opened.OutOfMemory
open_fault_of no_room.HeapFull = opened.HeapFull

abbrev pub reopen_fault_of : RoomFault → ReopenFault
reopen_fault_of no_room.OutOfMemory = again.OutOfMemory
reopen_fault_of no_room.HeapFull = again.HeapFull

abbrev pub apply_fault_of : RoomFault → ApplyFault
apply_fault_of no_room.OutOfMemory = apply.OutOfMemory
apply_fault_of no_room.HeapFull = apply.HeapFull

abbrev pub create_fault_of : RoomFault → CreateFault
create_fault_of no_room.OutOfMemory = create.OutOfMemory
create_fault_of no_room.HeapFull = create.HeapFull

abbrev pub store_audit_fault_of : AuditFault → StoreAuditFault
store_audit_fault_of audit.OutOfMemory = own.OutOfMemory
store_audit_fault_of (audit.BadEntry at) = own.BadEntry at

-- The two lists agree before this place, and not at it. Where one is the front of the other, this is its end.
pub record IsFirstDifference (xs ys : List Value) (at : ℕ) : Type 0 where
  pub before : take at xs ≡ take at ys
  pub here : slice_get xs at ≢ slice_get ys at
