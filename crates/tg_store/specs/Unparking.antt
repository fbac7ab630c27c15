-- How what an account holds is taken out by a new user: the commands by which it is done, which of them is denied, and the graph after them.
use Rattle.std.specs.Prelude.{◌≡◌, ◌≢◌, ℕ, ◌==◌, ◌&&◌, List, [], ◌∷◌, ◌++◌, length, map, if◌then◌else◌}
use Rattle.tg_rights.specs.RightSet.{RightSet, no_rights, only}
use Rattle.tg_rights.specs.declared.Right.TheVariants as right
use Rattle.tg_model.specs.declared.command.Command.{Command}
use Rattle.tg_model.specs.declared.command.Command.TheVariants.{Grant, Take}
use Rattle.tg_model.specs.Graph.{ProtectionGraph, listing_of}
use Rattle.tg_model.specs.Rules.{HoldsOver}
use Rattle.tg_journal.specs.declared.entry.Entry.{Entry}
use Rattle.tg_journal.specs.History.{IsLegal}
use Rattle.tg_store.specs.declared.parking.Parking.{Parking}
use Rattle.tg_store.specs.declared.parking.Parked.{Parked}
use Rattle.tg_store.specs.declared.parking.Parked.TheVariants.{Done, Denied}
use Rattle.tg_store.specs.Handing.{done_by}
use Rattle.tg_store.specs.Leaving.{removal}
use Rattle.tg_store.specs.Parking.{IsKeyDenied, IsUnused}
use Rattle.tg_store.specs.Store.{StoreState, graph_of_store}

-- ---- the commands

-- the host grants the user the right to take edges out of the account
abbrev pub take_key_of : Parking → Command
take_key_of p = Grant (only right.T) p.user p.account

-- the user takes an edge out of the account
abbrev pub taking : Parking → ℕ × RightSet → Entry
taking p edge = done_by p.user (Take edge.1 p.account edge.0)

-- The key is granted, each edge of the row is taken, the user gives the key up, and the host gives up what it holds over the account.
abbrev pub taking_all : Parking → List (ℕ × RightSet) → RightSet → List Entry
taking_all p row held =
    done_by p.host (take_key_of p) ∷ map (taking p) row ++ removal p.user (p.account, only right.T) ∷ removal p.host (p.account, held) ∷ []

-- All of it: the account's edges are taken, by rising name, and then the account is left.
abbrev pub unparking : ProtectionGraph → Parking → List Entry
unparking g p = taking_all p (listing_of g.label g.made p.account) (g.label p.host p.account)

-- ---- the graph

-- The graph afterwards: the user holds what the account holds, and nothing else, and the host has no edge to the account.
abbrev pub unparked : ProtectionGraph → Parking → ProtectionGraph
unparked g p =
    record g { label = λ a b. if a == p.user then g.label p.account b else (if (a == p.host) && (b == p.account) then no_rights else g.label a b) }

-- Where the host may unpark the user: the three are different, and the host holds grant over the user and take over the account.
pub record MayUnpark (g : ProtectionGraph) (p : Parking) : Type 0 where
  pub apart : (p.host ≢ p.user) × (p.user ≢ p.account) × (p.host ≢ p.account)
  pub user : HoldsOver g.label p.host p.user (only right.G)
  pub account : HoldsOver g.label p.host p.account (only right.T)

-- ---- the outcome

-- The user is unparked: exactly these entries were added, and the store represents the graph afterwards.
pub record IsUnparked (p : Parking) (old new : StoreState) (edges : ℕ) : Type 0 where
  pub allowed : MayUnpark (graph_of_store old) p
  pub unused : IsUnused (graph_of_store old).label p.account p.user
  pub count : edges ≡ length (listing_of (graph_of_store old).label (graph_of_store old).made p.account)
  pub entries : new.entries ≡ old.entries ++ unparking (graph_of_store old) p
  pub legal : IsLegal (graph_of_store old) (unparking (graph_of_store old) p)
  pub graph : graph_of_store new ≡ unparked (graph_of_store old) p
  pub opening : new.opening ≡ old.opening
  pub handed : new.handed ≡ old.handed
  pub limits : new.heap.table.limits ≡ old.heap.table.limits
  pub collections : new.collections ≡ old.collections

-- what comes of unparking
abbrev pub ComesOfUnparking : Parking → StoreState → StoreState → Parked → Type 0
ComesOfUnparking p old new (Done edges) = IsUnparked p old new edges
ComesOfUnparking p old new (Denied denial) = IsKeyDenied (take_key_of p) p.host old new denial
