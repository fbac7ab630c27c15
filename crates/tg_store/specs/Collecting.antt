-- What a collection of a store does, whoever makes it and with how many helpers.
use Rattle.std.specs.Prelude.{◌≡◌, ◌≢◌, ◌↔◌, ◌≤◌, ℕ, [], Result, OnErr, length}
use Rattle.tg_model.specs.Graph.{ProtectionGraph, IsReachable}
use Rattle.tg_space.specs.Generations.{AreNeeded}
use Rattle.tg_space.specs.SpaceList.{space_of}
use Rattle.tg_space.specs.declared.kind.Kind.{Kind}
use Rattle.tg_space.specs.declared.kind.Kind.TheVariants.{Full, Nursery}
use Rattle.tg_rows.specs.Content.{IsNamed}
use Rattle.tg_graph.specs.Heap.{content_of}
use Rattle.tg_graph.specs.Kept.{VerticesOfOldStay}
use Rattle.tg_store.specs.Counts.{with_one_collection}
use Rattle.tg_store.specs.Store.{StoreState, IsCountOf, StandsFor}

-- The store after a collection of a kind, beside the one before it, and the number that is answered.
pub record IsSwept (kind : Kind) (old new : StoreState) (count : ℕ) : Type 0 where
  -- so many vertices the heap has
  pub number : count ≡ length (content_of new.heap).names
  -- after a full collection they are those that can be reached on the graph that the store represented, and that is their
  -- number
  pub names : (g : ProtectionGraph) → StandsFor old g → kind ≡ Full → (x : ℕ) → IsNamed (content_of new.heap) x ↔ IsReachable g x
  pub reachable : (g : ProtectionGraph) → StandsFor old g → kind ≡ Full → IsCountOf (IsReachable g) count
  -- after a full collection no space but Old has a block, and after either no nursery
  pub only_old : kind ≡ Full → (space : ℕ) → space ≢ 0 → space_of new.heap.table.spaces space ≡ []
  pub no_nursery : (space : ℕ) → 2 ≤ space → space_of new.heap.table.spaces space ≡ []
  -- each cell that is remembered names a younger one; after a full collection there is none
  pub needed : AreNeeded new.heap.table.spaces new.heap.remembered
  pub none_needed : kind ≡ Full → new.heap.remembered ≡ []
  -- a nursery collection keeps the vertices of Old
  pub stay : kind ≡ Nursery → VerticesOfOldStay old.heap.table.spaces new.heap.table.spaces
  -- one more collection of the kind is counted, and none of the other
  pub counted : new.collections ≡ with_one_collection kind old.collections

-- What a collection leaves as it was, whatever comes of it: the opening, the limits and the journal; and where it is refused, all.
pub record KeepsHistory {T E : Type 0} (old new : StoreState) (result : Result T E) : Type 0 where
  pub entries : new.entries ≡ old.entries
  pub handed : new.handed ≡ old.handed
  pub refused : OnErr result (new ≡ old)
  pub opening : new.opening ≡ old.opening
  pub limits : new.heap.table.limits ≡ old.heap.table.limits

-- So many helpers may collect, the thread that asks for it among them.
pub record AreHelpers (helpers : ℕ) : Type 0 where
  pub some : 1 ≤ helpers
  pub few : helpers ≤ 8
