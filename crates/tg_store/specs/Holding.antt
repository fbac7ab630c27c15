-- Who holds a right over a vertex, and who has an edge to it.
use Rattle.std.specs.Prelude.{◌≡◌, ◌↔◌, ◌<◌, ◌&&◌, ℕ, List}
use Rattle.std.specs.List.{AllPairs, Contains}
use Rattle.std.specs.List.Sorted.{IsStrictlyIncreasing}
use Rattle.tg_rights.specs.RightSet.{RightSet, has, set_where}
use Rattle.tg_rights.specs.declared.Right.{Right}
use Rattle.tg_model.specs.Graph.{ProtectionGraph, HasEdge, IsReachable}
use Rattle.tg_model.specs.Picture.{Holds}

-- the rights that are in both sets
abbrev pub common : RightSet → RightSet → RightSet
common a b = set_where (λ x. has a x && has b x)

-- They are, by rising name, exactly those who hold the right over y, of all that the active subjects reach.
pub record AreHolders (g : ProtectionGraph) (right : Right) (y : ℕ) (names : List ℕ) : Type 0 where
  pub rising : IsStrictlyIncreasing names
  pub each : (x : ℕ) → Contains names x ↔ (IsReachable g x × Holds g.label x right y)

-- They are exactly the edges to y of all that the active subjects reach. Each has the name of the vertex from which it leads and its whole
-- label. These names rise, so each edge comes once.
pub record AreEdgesTo (g : ProtectionGraph) (y : ℕ) (edges : List (ℕ × RightSet)) : Type 0 where
  pub rising : AllPairs (λ d e. d.0 < e.0) edges
  pub each : (x : ℕ) (label : RightSet) → Contains edges (x, label) ↔ (IsReachable g x × HasEdge g.label x y × (label ≡ g.label x y))
