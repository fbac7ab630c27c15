-- What a store is to its callers: where it began, the journal of what was decided since, and a heap. What holds of every store.
use Rattle.std.specs.Prelude.{◌≡◌, ◌↔◌, ◌≤◌, ◌⊎◌, ◌+◌, ◌*◌, ℕ, ◌==◌, List, [], ◌∷◌, ◌++◌, length, map}
use Rattle.std.specs.List.{Contains, IsDistinct}
use Rattle.tg_model.specs.declared.command.Deed.{Deed}
use Rattle.tg_model.specs.declared.reply.Reply.{Reply}
use Rattle.tg_model.specs.Graph.{ProtectionGraph}
use Rattle.tg_journal.specs.declared.entry.Entry.{Entry}
use Rattle.tg_journal.specs.History.{IsLegal, graph_after}
use Rattle.tg_space.specs.SpaceList.{block_count, space_of}
use Rattle.tg_space.specs.SpaceTable.{SpaceTable, with_adopted}
use Rattle.tg_space.specs.Collection.{Collected, blocks_for, used_cells}
use Rattle.tg_space.specs.declared.kind.Kind.{Kind}
use Rattle.tg_space.specs.declared.kind.Kind.TheVariants.{Full, Nursery}
use Rattle.tg_graph.specs.Heap as graph
use Rattle.tg_graph.specs.Heap.{HeapState, content_of}
use Rattle.tg_graph.specs.Kept.{AreWritten, rewritten_at}
use Rattle.tg_graph.specs.Standing as standing
use Rattle.tg_store.specs.declared.census.Collections.{Collections}
use Rattle.tg_store.specs.Origin.{Origin, IsOrigin, start_at}

-- What a store is: where it began, all entries of its journal, oldest first, how many of these were handed out or given up, its heap,
-- and how many collections were done. The store holds the entries from that number on; which those before it are, clauses alone say.
-- Of a store that was opened again, the entries before its snapshot are placeholders: listings, which change nothing (tg_journal, Journal).
pub record StoreState : Type 0 where
  pub opening : Origin
  pub entries : List Entry
  pub handed : ℕ
  pub heap : HeapState
  pub collections : Collections

-- the graph that was never collected: the one that the store began with, after the deeds of all entries
abbrev pub graph_of_store : StoreState → ProtectionGraph
graph_of_store s = graph_after (start_at s.opening) s.entries

-- The store represents that graph, and for no other. It is the word in which all calls of a store are described.
abbrev pub StandsFor : StoreState → ProtectionGraph → Type 0
StandsFor s g = graph_of_store s ≡ g

-- What holds of every store: its journal is a legal history from where it began, and its heap represents the graph after it, whose
-- subjects are the heap's active ones.
pub record IsFaithful (s : StoreState) : Type 0 where
  pub origin : IsOrigin s.opening
  pub legal : IsLegal (start_at s.opening) s.entries
  pub stands : standing.IsContentOf (content_of s.heap) (graph_of_store s)
  pub subjects : graph.subject_names s.heap ≡ (graph_of_store s).subjects

-- the same, and so many vertices were ever made
pub record IsStore (s : StoreState) (made : ℕ) : Type 0 where
  pub faithful : IsFaithful s
  pub is_made : made ≡ (graph_of_store s).made

-- ---- what a call does

-- exactly this entry was added to the journal
abbrev pub Enters : StoreState → StoreState → ℕ → Deed → Reply → Type 0
Enters old new worker deed reply = new.entries ≡ old.entries ++ (record { worker = worker; deed = deed; reply = reply }) ∷ []

-- exactly this entry was added to the journal, and nothing else changed
pub record OnlyEnters (old new : StoreState) (worker : ℕ) (deed : Deed) (reply : Reply) : Type 0 where
  pub entry : Enters old new worker deed reply
  pub opening : new.opening ≡ old.opening
  pub handed : new.handed ≡ old.handed
  pub heap : new.heap ≡ old.heap
  pub collections : new.collections ≡ old.collections

-- the two stores are the same but for room for more payloads
pub record IsUnchanged (old new : StoreState) : Type 0 where
  pub opening : new.opening ≡ old.opening
  pub entries : new.entries ≡ old.entries
  pub handed : new.handed ≡ old.handed
  pub heap : graph.IsUnchangedHeap old.heap new.heap
  pub collections : new.collections ≡ old.collections

-- The store holds the entries from a place on, and nothing else changed: those before it were handed out or given up.
pub record HoldsFrom (first : ℕ) (old new : StoreState) : Type 0 where
  pub entries : new.entries ≡ old.entries
  pub handed : new.handed ≡ first
  pub opening : new.opening ≡ old.opening
  pub heap : new.heap ≡ old.heap
  pub collections : new.collections ≡ old.collections

-- the same of all that were made: none is held any more
abbrev pub HandsOut : StoreState → StoreState → Type 0
HandsOut old new = HoldsFrom (length old.entries) old new

-- What a collection made is in the place of what it moved: of a full one it is all that there is; a nursery collection has
-- written the remembered cells besides.
pub record HasAdopted (kind : Kind) (old new : HeapState) (made : Collected) : Type 0 where
  pub full : kind ≡ Full → new.table ≡ with_adopted old.table Full made.aged made.old
  pub nursery : kind ≡ Nursery → AreWritten (with_adopted old.table Nursery made.aged made.old) new.table (map (rewritten_at old.table.spaces made.forward) old.remembered)

-- How few blocks a collection leaves. Of a full one they are no more than the cells in use need; of a nursery collection at
-- most one more than the younger cells in use need, beside those that Old had, since it fills blocks of two spaces. Each space
-- may have so many more, where several helpers fill blocks of their own.
pub record HasFewBlocks (kind : Kind) (more : ℕ) (old new : SpaceTable) : Type 0 where
  -- no space has more than it may, or else no more than it had
  pub within : (space : ℕ) → (length (space_of new.spaces space) ≤ old.limits.space_blocks) ⊎ (length (space_of new.spaces space) ≤ length (space_of old.spaces space))
  pub full : kind ≡ Full → block_count new.spaces ≤ blocks_for (used_cells Full old.spaces) + more
  pub nursery : kind ≡ Nursery → block_count new.spaces ≤ length (space_of old.spaces 0) + blocks_for (used_cells Nursery old.spaces) + 1 + 2 * more

-- ---- counts

-- there are exactly so many numbers of which this holds: a list has each of them, once, and no other
pub record IsCountOf (which : ℕ → Type 0) (count : ℕ) : Type 0 where
  pub each : List ℕ
  pub once : IsDistinct (λ a b. a == b) each
  pub exactly : (x : ℕ) → Contains each x ↔ which x
  pub number : length each ≡ count
