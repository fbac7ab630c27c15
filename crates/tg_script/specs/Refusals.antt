-- How a fault of the store is reported.
use Rattle.tg_space.specs.declared.room_fault.RoomFault.{RoomFault}
use Rattle.tg_space.specs.declared.room_fault.RoomFault.TheVariants as no_room
use Rattle.tg_model.specs.declared.reply.Reply.TheVariants as reply
use Rattle.tg_parallel.specs.declared.fault.HelpersFault.{HelpersFault}
use Rattle.tg_parallel.specs.declared.fault.HelpersFault.TheVariants as helpers
use Rattle.tg_store.specs.declared.fault.ApplyFault.{ApplyFault}
use Rattle.tg_store.specs.declared.fault.ApplyFault.TheVariants as apply
use Rattle.tg_store.specs.declared.fault.CreateFault.{CreateFault}
use Rattle.tg_store.specs.declared.fault.CreateFault.TheVariants as create
use Rattle.tg_text.specs.declared.answer.Answer.{Answer}
use Rattle.tg_text.specs.declared.answer.Answer.TheVariants as told
use Rattle.tg_text.specs.declared.answer.Refusal.{Refusal}
use Rattle.tg_text.specs.declared.answer.Refusal.TheVariants as refusal

abbrev pub apply_refusal : ApplyFault → Refusal
apply_refusal apply.NoSuchWorker = refusal.Worker
apply_refusal apply.OutOfMemory = refusal.Memory
apply_refusal apply.HeapFull = refusal.Heap

abbrev pub create_answer : CreateFault → Answer
create_answer create.NoSuchWorker = told.Refused refusal.Worker
create_answer create.VerticesFull = told.Reply reply.VerticesFull
create_answer create.WorkersFull = told.Reply reply.WorkersFull
create_answer create.OutOfMemory = told.Refused refusal.Memory
create_answer create.HeapFull = told.Refused refusal.Heap

abbrev pub collect_refusal : RoomFault → Refusal
collect_refusal no_room.OutOfMemory = refusal.Memory
collect_refusal no_room.HeapFull = refusal.Heap

abbrev pub helpers_refusal : HelpersFault → Refusal
helpers_refusal helpers.OutOfMemory = refusal.Memory
helpers_refusal helpers.HeapFull = refusal.Heap
helpers_refusal helpers.NoThread = refusal.Threads
