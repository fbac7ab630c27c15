-- Why a store has no room for an entry.
use Rattle.std.specs.Prelude.{◌↔◌, ◌⊎◌, ℕ}
use Rattle.tg_model.specs.declared.command.Deed.{Deed}
use Rattle.tg_model.specs.declared.command.Deed.TheVariants.{Create, Spawn, Plain}
use Rattle.tg_model.specs.Graph.{IsReachable}
use Rattle.tg_model.specs.Rules.{IsAllowed}
use Rattle.tg_word.specs.Word.{nursery_space}
use Rattle.tg_space.specs.SpaceTable.{SpaceTable}
use Rattle.tg_space.specs.declared.kind.Kind.TheVariants.{Full}
use Rattle.tg_space.specs.declared.room_fault.RoomFault.{RoomFault}
use Rattle.tg_space.specs.declared.room_fault.RoomFault.TheVariants.{OutOfMemory, HeapFull}
use Rattle.tg_rows.specs.Content.{IsNamed}
use Rattle.tg_rows.specs.Spots.{LacksCellsFor}
use Rattle.tg_graph.specs.Heap.{content_of, nursery_of}
use Rattle.tg_rules.specs.Effect.{AddsEdge, LacksCellsToServe}
use Rattle.tg_store.specs.Room.{LacksRoomToCollect}
use Rattle.tg_store.specs.Store.{StoreState, graph_of_store}

-- the heap has exactly the vertices that can be reached, as after a full collection
abbrev pub HasOnlyReached : StoreState → Type 0
HasOnlyReached s = (x : ℕ) → IsNamed (content_of s.heap) x ↔ IsReachable (graph_of_store s) x

-- the deed of a worker that holds a nursery, on a graph where so many vertices were made, needs more cells than the nursery has left
-- and gets
abbrev pub LacksCells : SpaceTable → ℕ → ℕ → ℕ → Deed → Type 0
LacksCells t nursery worker made (Plain command) = AddsEdge command × LacksCellsToServe t nursery worker command
LacksCells t nursery worker made (Create label law state) = LacksCellsFor t (nursery_space nursery) 1 worker made
LacksCells t nursery worker made (Spawn label law state) = LacksCellsFor t (nursery_space nursery) 1 worker made

-- The heap is full for a deed of a worker, which is allowed. A full collection was made, or there is no room for one.
pub record IsFullFor (s : StoreState) (worker : ℕ) (deed : Deed) : Type 0 where
  pub allowed : IsAllowed (graph_of_store s) worker deed
  pub lacks : LacksCells s.heap.table (nursery_of s.heap worker) worker (graph_of_store s).made deed
  pub collected : HasOnlyReached s ⊎ LacksRoomToCollect Full 1 s.heap

-- why a store has no room for a deed of a worker; of a lack of memory no clause says more
abbrev pub LacksRoom : StoreState → ℕ → Deed → RoomFault → Type 0
LacksRoom s worker deed OutOfMemory = Unit {0}
LacksRoom s worker deed HeapFull = IsFullFor s worker deed
