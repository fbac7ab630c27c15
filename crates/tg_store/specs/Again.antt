-- What a store is that was opened again from a snapshot.
use Rattle.std.specs.Prelude.{◌≡◌, ◌≢◌, ◌↔◌, ◌⊎◌, ℕ, [], length}
use Rattle.tg_model.specs.Graph.{ProtectionGraph, IsReachable, IsSound}
use Rattle.tg_model.specs.Opened.{Plan}
use Rattle.tg_journal.specs.Auditing.{HasComeTo}
use Rattle.tg_snapshot.specs.Snapshot.{Saved, IsSnapshotOf, graph_shown}
use Rattle.tg_space.specs.SpaceList.{space_of}
use Rattle.tg_space.specs.SpaceTable.{BlockLimits}
use Rattle.tg_space.specs.declared.kind.Kind.TheVariants.{Full}
use Rattle.tg_rows.specs.Content.{IsNamed}
use Rattle.tg_graph.specs.Heap.{content_of}
use Rattle.tg_store.specs.Counts.{no_collections, with_one_collection}
use Rattle.tg_store.specs.Origin.{opened_again}
use Rattle.tg_store.specs.Store.{StoreState, StandsFor}

-- The store was collected in full once: its heap has exactly what is reached on the graph that the snapshot shows, in Old alone.
pub record IsCleared (snapshot : Saved) (store : StoreState) : Type 0 where
  pub once : store.collections ≡ with_one_collection Full no_collections
  pub names : (x : ℕ) → IsNamed (content_of store.heap) x ↔ IsReachable (graph_shown snapshot) x
  pub only_old : (space : ℕ) → space ≢ 0 → space_of store.heap.table.spaces space ≡ []

-- The store was opened again from the snapshot. It represents the graph that the snapshot shows, so for one alike to each graph of which
-- it is a snapshot. Its next entry gets the snapshot's place, and it holds none before.
pub record Reopens (plan : Plan) (snapshot : Saved) (given : BlockLimits) (store : StoreState) : Type 0 where
  pub start : StandsFor store (graph_shown snapshot)
  pub of : (g : ProtectionGraph) → IsSound g → IsSnapshotOf snapshot g → (k : ProtectionGraph) → StandsFor store k → HasComeTo g k
  pub opening : store.opening ≡ opened_again plan snapshot
  pub place : length store.entries ≡ snapshot.entries
  pub none_held : store.handed ≡ snapshot.entries
  pub limits : store.heap.table.limits ≡ given
  -- without room for a copy it wasn't collected
  pub cleared : IsCleared snapshot store ⊎ (store.collections ≡ no_collections)
