-- How what a subject holds is put into an account: the commands by which it is done, which of them is denied, and the graph after them.
use Rattle.std.specs.Prelude.{◌≡◌, ◌≢◌, ℕ, ◌==◌, List, [], ◌∷◌, ◌++◌, ◌⊎◌, Some, length, map, if◌then◌else◌}
use Rattle.tg_rights.specs.RightSet.{RightSet, no_rights, only}
use Rattle.tg_rights.specs.declared.Right.TheVariants as right
use Rattle.tg_model.specs.declared.command.Command.{Command}
use Rattle.tg_model.specs.declared.command.Command.TheVariants.{Grant}
use Rattle.tg_model.specs.declared.command.Deed.TheVariants.{Plain}
use Rattle.tg_model.specs.declared.reply.Denial.{Denial}
use Rattle.tg_model.specs.declared.reply.Reply.TheVariants as reply
use Rattle.tg_model.specs.Graph.{ProtectionGraph, HasEdge, listing_of}
use Rattle.tg_model.specs.Rules.{HoldsOver, denial_in}
use Rattle.tg_journal.specs.declared.entry.Entry.{Entry}
use Rattle.tg_journal.specs.History.{IsLegal}
use Rattle.tg_rows.specs.Content.{IsSameContent}
use Rattle.tg_graph.specs.Heap.{content_of, subject_names}
use Rattle.tg_space.specs.declared.room_fault.RoomFault.{RoomFault}
use Rattle.tg_space.specs.declared.room_fault.RoomFault.TheVariants as room
use Rattle.tg_store.specs.declared.parking.Parking.{Parking}
use Rattle.tg_store.specs.declared.parking.ParkFault.{ParkFault}
use Rattle.tg_store.specs.declared.parking.ParkFault.TheVariants as fault
use Rattle.tg_store.specs.declared.parking.Parked.{Parked}
use Rattle.tg_store.specs.declared.parking.Parked.TheVariants.{Done, Denied}
use Rattle.tg_store.specs.Handing.{done_by}
use Rattle.tg_store.specs.Leaving.{leaving, left_by, removal}
use Rattle.tg_store.specs.Store.{StoreState, OnlyEnters, graph_of_store}

-- ---- the commands

-- the host grants the user the right to put edges into the account
abbrev pub key_of : Parking → Command
key_of p = Grant (only right.G) p.user p.account

-- the user puts an edge of its own into the account
abbrev pub putting : Parking → ℕ × RightSet → Entry
putting p edge = done_by p.user (Grant edge.1 p.account edge.0)

-- The key is granted, each edge of the row is put into the account, and the key is given up.
abbrev pub filling : Parking → List (ℕ × RightSet) → List Entry
filling p row = done_by p.host (key_of p) ∷ map (putting p) row ++ removal p.user (p.account, only right.G) ∷ []

-- All of it: the user's edges are put into the account, by rising name, and then the user leaves.
abbrev pub parking : ProtectionGraph → Parking → List Entry
parking g p = filling p (listing_of g.label g.made p.user) ++ leaving g p.user

-- ---- the graph

-- the graph in which one vertex holds exactly what another holds
abbrev pub with_all_of : ProtectionGraph → ℕ → ℕ → ProtectionGraph
with_all_of g from to = record g { label = λ a b. if a == to then g.label from b else g.label a b }

-- the graph in which the account holds what the user holds, and nothing else
abbrev pub with_account : ProtectionGraph → Parking → ProtectionGraph
with_account g p = with_all_of g p.user p.account

-- The graph afterwards: the account holds what the user held, and the user has left.
abbrev pub parked : ProtectionGraph → Parking → ProtectionGraph
parked g p = left_by (with_account g p) p.user

-- The second vertex, which is to hold what the first one holds, holds nothing yet, and the first one has no edge to it.
pub record IsUnused (label : ℕ → ℕ → RightSet) (from to : ℕ) : Type 0 where
  pub empty : (y : ℕ) → label to y ≡ no_rights
  pub apart : label from to ≡ no_rights

-- Where the host may park the user: the three are different, and the host holds grant over the user and over the account.
pub record MayPark (g : ProtectionGraph) (p : Parking) : Type 0 where
  pub apart : (p.host ≢ p.user) × (p.user ≢ p.account) × (p.host ≢ p.account)
  pub user : HoldsOver g.label p.host p.user (only right.G)
  pub account : HoldsOver g.label p.host p.account (only right.G)

-- ---- the outcome

-- The user is parked: exactly these entries were added, and the store represents the graph afterwards.
pub record IsParked (p : Parking) (old new : StoreState) (edges : ℕ) : Type 0 where
  pub allowed : MayPark (graph_of_store old) p
  pub unused : IsUnused (graph_of_store old).label p.user p.account
  pub count : edges ≡ length (listing_of (graph_of_store old).label (graph_of_store old).made p.user)
  pub entries : new.entries ≡ old.entries ++ parking (graph_of_store old) p
  pub legal : IsLegal (graph_of_store old) (parking (graph_of_store old) p)
  pub graph : graph_of_store new ≡ parked (graph_of_store old) p
  pub opening : new.opening ≡ old.opening
  pub handed : new.handed ≡ old.handed
  pub limits : new.heap.table.limits ≡ old.heap.table.limits
  pub collections : new.collections ≡ old.collections

-- The host's grant of a key was denied: exactly its entry was added, and nothing else changed.
pub record IsKeyDenied (key : Command) (host : ℕ) (old new : StoreState) (denial : Denial) : Type 0 where
  pub denied : denial_in (graph_of_store old) host key ≡ Some denial
  pub entry : OnlyEnters old new host (Plain key) (reply.Denied denial)
  pub graph : graph_of_store new ≡ graph_of_store old

-- what comes of parking
abbrev pub ComesOfParking : Parking → StoreState → StoreState → Parked → Type 0
ComesOfParking p old new (Done edges) = IsParked p old new edges
ComesOfParking p old new (Denied denial) = IsKeyDenied (key_of p) p.host old new denial

-- the second vertex holds something already, or the first one has an edge to it
abbrev pub IsInUse : (ℕ → ℕ → RightSet) → ℕ → ℕ → Type 0
IsInUse label from to = ((y : ℕ) × HasEdge label to y) ⊎ HasEdge label from to

-- why a user wasn't parked or unparked, where room was refused
abbrev pub park_fault_of : RoomFault → ParkFault
park_fault_of room.OutOfMemory = fault.OutOfMemory
park_fault_of room.HeapFull = fault.HeapFull

-- The two stores have the same history and the same content: they differ only in cells that represent nothing, and in room.
pub record KeepsGraph (old new : StoreState) : Type 0 where
  pub opening : new.opening ≡ old.opening
  pub entries : new.entries ≡ old.entries
  pub handed : new.handed ≡ old.handed
  pub content : IsSameContent (content_of old.heap) (content_of new.heap)
  pub subjects : subject_names new.heap ≡ subject_names old.heap
  pub limits : new.heap.table.limits ≡ old.heap.table.limits
  pub collections : new.collections ≡ old.collections
