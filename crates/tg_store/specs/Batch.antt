-- What a batch of commands leaves of a store.
use Rattle.std.specs.Prelude.{◌≡◌, ◌↔◌, ℕ, List, ◌++◌, Some, map, slice_get, take}
use Rattle.std.specs.List.{All}
use Rattle.tg_model.specs.declared.command.Command.{Command}
use Rattle.tg_model.specs.declared.command.Deed.TheVariants.{Plain}
use Rattle.tg_model.specs.Graph.{IsSubject}
use Rattle.tg_model.specs.Rules.{IsAllowed}
use Rattle.tg_journal.specs.declared.entry.Entry.{Entry}
use Rattle.tg_journal.specs.History.{IsLegal, graph_after}
use Rattle.tg_graph.specs.Heap.{nursery_of}
use Rattle.tg_rules.specs.Effect.{AddsEdge, LacksCellsToServe}
use Rattle.tg_store.specs.declared.batch.BatchFault.{BatchFault}
use Rattle.tg_store.specs.declared.batch.BatchFault.TheVariants.{Stopped, TooLong}
use Rattle.tg_store.specs.declared.fault.ApplyFault.{ApplyFault}
use Rattle.tg_store.specs.declared.fault.ApplyFault.TheVariants.{HeapFull, NoSuchWorker}
use Rattle.tg_store.specs.Store.{StoreState, graph_of_store}

-- These entries are of a worker's commands: one for each, in their order.
pub record AreOfCommands (worker : ℕ) (commands : List Command) (entries : List Entry) : Type 0 where
  pub by : All (λ e. e.worker ≡ worker) entries
  pub deeds : map (λ e. e.deed) entries ≡ map Plain commands

-- The commands of a worker were taken: the store has exactly one entry more for each, in their order. Each entry is legal on the graph
-- after those before it, so its reply is that of the rules there. The store represents the graph after all of them.
pub record Applies (worker : ℕ) (commands : List Command) (old new : StoreState) : Type 0 where
  pub made : List Entry
  pub theirs : AreOfCommands worker commands made
  pub entries : new.entries ≡ old.entries ++ made
  pub legal : IsLegal (graph_of_store old) made
  pub graph : graph_of_store new ≡ graph_after (graph_of_store old) made
  pub opening : new.opening ≡ old.opening
  pub handed : new.handed ≡ old.handed
  pub limits : new.heap.table.limits ≡ old.heap.table.limits
  pub collections : new.collections ≡ old.collections

-- The command at a place of the batch was refused of this store: there is no such worker, or the command is allowed and a cell is
-- lacking; of a lack of memory no clause says more.
pub record IsRefusedAt (worker : ℕ) (commands : List Command) (s : StoreState) (done : ℕ) (why : ApplyFault) : Type 0 where
  pub next : Command
  pub there : slice_get commands done ≡ Some next
  pub no_such_worker : (why ≡ NoSuchWorker) ↔ (¬ IsSubject (graph_of_store s) worker)
  pub full : why ≡ HeapFull →
      IsAllowed (graph_of_store s) worker (Plain next) × AddsEdge next × LacksCellsToServe s.heap.table (nursery_of s.heap worker) worker next

-- A batch stopped at a place: the commands before it were taken, and nothing else was.
pub record StopsAt (worker : ℕ) (commands : List Command) (old new : StoreState) (done : ℕ) (why : ApplyFault) : Type 0 where
  pub before : Applies worker (take done commands) old new
  pub refused : IsRefusedAt worker commands new done why

-- why a batch was not done to its end, and what it leaves
abbrev pub StopsBatch : ℕ → List Command → StoreState → StoreState → BatchFault → Type 0
StopsBatch worker commands old new TooLong = new ≡ old
StopsBatch worker commands old new (Stopped done why) = StopsAt worker commands old new done why
