-- How rights over a vertex are withdrawn: who gives them up, by which entries, and the graph after them.
use Rattle.std.specs.Prelude.{◌≡◌, ◌↔◌, ◌==◌, ◌&&◌, ◌++◌, ℕ, List, map, not, false, if◌then◌else◌}
use Rattle.std.specs.List.{Contains, filter, list_any}
use Rattle.std.specs.List.Sorted.{IsStrictlyIncreasing}
use Rattle.tg_rights.specs.RightSet.{RightSet, is_none_held, minus}
use Rattle.tg_model.specs.Graph.{ProtectionGraph, IsReachable}
use Rattle.tg_journal.specs.declared.entry.Entry.{Entry}
use Rattle.tg_journal.specs.History.{IsLegal}
use Rattle.tg_store.specs.Holding.{common}
use Rattle.tg_store.specs.Leaving.{removal}
use Rattle.tg_store.specs.Store.{StoreState, graph_of_store}

-- who of the active subjects gives up: those outside of a list, in their order
abbrev pub givers_among : List ℕ → List ℕ → List ℕ
givers_among subjects keep = filter (λ x. not (list_any (λ k. k == x) keep)) subjects

-- What each of these gives up over y: the rights among the withdrawn ones that it holds. Who holds none of them is left out.
abbrev pub given_up : (ℕ → ℕ → RightSet) → ℕ → RightSet → List ℕ → List (ℕ × RightSet)
given_up label y rights givers = filter (λ e. not (is_none_held e.1)) (map (λ x. (x, common rights (label x y))) givers)

-- one gives up rights over y
abbrev pub removal_over : ℕ → ℕ × RightSet → Entry
removal_over y e = removal e.0 (y, e.1)

-- the entries of a withdrawal: a remove of each who gives something up, by rising name
abbrev pub withdrawing : ProtectionGraph → ℕ → RightSet → List ℕ → List Entry
withdrawing g y rights keep = map (removal_over y) (given_up g.label y rights (givers_among g.subjects keep))

-- the labels once these have given up the rights over y
abbrev pub labels_left : (ℕ → ℕ → RightSet) → ℕ → RightSet → List ℕ → ℕ → ℕ → RightSet
labels_left label y rights givers a b = if (b == y) && list_any (λ x. x == a) givers then minus (label a b) rights else label a b

-- The graph after a withdrawal: no active subject outside of the list holds any of the rights over y, and all else is as it was.
abbrev pub withdrawn : ProtectionGraph → ℕ → RightSet → List ℕ → ProtectionGraph
withdrawn g y rights keep = record g { label = labels_left g.label y rights (givers_among g.subjects keep) }

-- They are, by rising name, exactly those who hold some of the rights over y, of all that the active subjects reach.
pub record AreHoldersOfSome (g : ProtectionGraph) (rights : RightSet) (y : ℕ) (names : List ℕ) : Type 0 where
  pub rising : IsStrictlyIncreasing names
  pub each : (x : ℕ) → Contains names x ↔ (IsReachable g x × (is_none_held (common rights (g.label x y)) ≡ false))

-- The rights over the target were withdrawn: exactly these entries were added, and the store represents the graph after them. Those who
-- then hold some of the rights still are those with the names.
pub record IsWithdrawn (target : ℕ) (rights : RightSet) (keep : List ℕ) (old new : StoreState) (names : List ℕ) : Type 0 where
  pub entries : new.entries ≡ old.entries ++ withdrawing (graph_of_store old) target rights keep
  pub legal : IsLegal (graph_of_store old) (withdrawing (graph_of_store old) target rights keep)
  pub graph : graph_of_store new ≡ withdrawn (graph_of_store old) target rights keep
  pub left : AreHoldersOfSome (graph_of_store new) rights target names
  pub opening : new.opening ≡ old.opening
  pub handed : new.handed ≡ old.handed
  pub limits : new.heap.table.limits ≡ old.heap.table.limits
  pub collections : new.collections ≡ old.collections
