-- Pictures: a graph without what its vertices store, as a list of edges.
use Rattle.std.specs.Prelude.{◌≡◌, ℕ, ◌<◌, true, List}
use Rattle.std.specs.List.{All}
use Rattle.tg_rights.specs.RightSet.{RightSet, has}
use Rattle.tg_rights.specs.declared.Right.{Right}
use Rattle.tg_model.specs.declared.edge.Edge.{Edge}
use Rattle.tg_model.specs.Graph.{ProtectionGraph, IsSubject, with_rights}
use Rattle.tg_model.specs.Opened.{label_in}

-- x holds this right over y
abbrev pub Holds : (ℕ → ℕ → RightSet) → ℕ → Right → ℕ → Type 0
Holds label x right y = has (label x y) right ≡ true

-- what a picture shows: the active subjects, the edges, how many vertices were ever made, and the most that may be
pub record Shown : Type 0 where
  pub subjects : List ℕ
  pub edges : List Edge
  pub made : ℕ
  pub limit : ℕ

-- Each active subject was made, and so were both ends of each edge. This holds of every plain graph and of every sound one.
pub record IsMade (g : ProtectionGraph) : Type 0 where
  pub subjects : (x : ℕ) → IsSubject g x → x < g.made
  pub ends : (a b : ℕ) (right : Right) → Holds g.label a right b → (a < g.made) × (b < g.made)

-- it is a picture of this graph: all but the values is the same
pub record IsPictureOf (p : Shown) (g : ProtectionGraph) : Type 0 where
  pub is_made : IsMade g
  pub subjects : g.subjects ≡ p.subjects
  pub made : g.made ≡ p.made
  pub limit : g.limit ≡ p.limit
  pub labels : (a b : ℕ) → g.label a b ≡ label_in p.edges a b

-- the graph where a has these rights over b too
abbrev pub with_edge : ProtectionGraph → ℕ → ℕ → RightSet → ProtectionGraph
with_edge g a b rights = record g { label = with_rights g.label a b rights }

-- each right of an edge of a row is in the list, on the edge of this vertex
abbrev pub StandsIn : List Edge → ℕ → ℕ × RightSet → Type 0
StandsIn edges from edge = (right : Right) → has edge.1 right ≡ true → Holds (label_in edges) from right edge.0

-- a listing has the labels of the edges of this vertex
abbrev pub IsLabelledBy : (ℕ → ℕ → RightSet) → ℕ → List (ℕ × RightSet) → Type 0
IsLabelledBy label from listing = All (λ edge. edge.1 ≡ label from edge.0) listing

-- the rights in the list are among these
abbrev pub AreAmong : List Edge → (ℕ → ℕ → RightSet) → Type 0
AreAmong edges label = (a b : ℕ) (right : Right) → Holds (label_in edges) a right b → Holds label a right b
