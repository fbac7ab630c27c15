-- One entry whose deed is done again.
use Rattle.std.specs.Prelude.{◌≡◌, ◌↔◌, ℕ, Bool, IsTrue, [], ◌∷◌, ◌++◌, Result, IfOk, IfErr, OnErr}
use Rattle.tg_model.specs.declared.command.Deed.{Deed}
use Rattle.tg_model.specs.declared.reply.Reply.{Reply}
use Rattle.tg_model.specs.Graph.{IsSubject}
use Rattle.tg_model.specs.Rules.{DeedFits, IsAllowed}
use Rattle.tg_journal.specs.declared.entry.Entry.{Entry}
use Rattle.tg_journal.specs.History.{IsLegalEntry}
use Rattle.tg_space.specs.declared.room_fault.RoomFault.{RoomFault}
use Rattle.tg_space.specs.declared.room_fault.RoomFault.TheVariants.{HeapFull}
use Rattle.tg_graph.specs.Heap.{nursery_of}
use Rattle.tg_store.specs.Store.{StoreState, Enters, IsUnchanged, graph_of_store}
use Rattle.tg_resume.specs.Room.{LacksCells, LacksRoom}

-- opening, limits and what was handed out are as they were
pub record Stays (old new : StoreState) : Type 0 where
  pub opening : new.opening ≡ old.opening
  pub handed : new.handed ≡ old.handed
  pub limits : new.heap.table.limits ≡ old.heap.table.limits

-- A deed of a subject was tried: exactly its entry with the reply was added. Or there was no room for it, for the reason in the refusal,
-- and nothing changed but room for more payloads.
pub record Tries {E : Type 0} (why : E → RoomFault) (worker : ℕ) (deed : Deed) (old new : StoreState) (result : Result Reply E) : Type 0 where
  pub entered : IfOk result (λ reply. Enters old new worker deed reply)
  pub refused : OnErr result (IsUnchanged old new)
  pub allowed : IfErr result (λ e. why e ≡ HeapFull → IsAllowed (graph_of_store old) worker deed)
  pub lacks : IfErr result (λ e. why e ≡ HeapFull → LacksCells old.heap.table (nursery_of old.heap worker) worker (graph_of_store old).made deed)
  pub stays : Stays old new

-- A deed of a subject was done, after a full collection if the heap was full: exactly its entry with the reply was added. Or there was no room for it, and no entry was added.
pub record Does (worker : ℕ) (deed : Deed) (old new : StoreState) (result : Result Reply RoomFault) : Type 0 where
  pub entered : IfOk result (λ reply. Enters old new worker deed reply)
  pub refused : OnErr result (new.entries ≡ old.entries)
  pub reason : IfErr result (LacksRoom new worker deed)
  pub stays : Stays old new

-- An entry was replayed. The result is whether it is legal on the graph that the store represented: then the store has it after
-- the others. Or there was no room for it, and no entry was added.
pub record Replays (e : Entry) (old new : StoreState) (result : Result Bool RoomFault) : Type 0 where
  pub legal : IfOk result (λ legal. IsTrue legal ↔ IsLegalEntry (graph_of_store old) e)
  pub entered : IfOk result (λ legal. IsTrue legal → new.entries ≡ old.entries ++ e ∷ [])
  pub refused : OnErr result (new.entries ≡ old.entries)
  pub subject : OnErr result (IsSubject (graph_of_store old) e.worker)
  pub fits : OnErr result (DeedFits e.deed)
  pub reason : IfErr result (LacksRoom new e.worker e.deed)
  pub stays : Stays old new
