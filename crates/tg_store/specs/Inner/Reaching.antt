-- What a walk over a heap from its active subjects has found on its way.
use Rattle.std.specs.Prelude.{◌≡◌, ◌↔◌, ◌==◌, ◌++◌, ◌<◌, ℕ, List, map, not}
use Rattle.std.specs.List.{All, AllPairs, Contains, IsDistinct, filter}
use Rattle.tg_rights.specs.RightSet.{RightSet, is_none_held}
use Rattle.tg_model.specs.declared.edge.Edge.{Edge}
use Rattle.tg_model.specs.Graph.{HasEdge}
use Rattle.tg_word.specs.declared.Place.{Place}
use Rattle.tg_space.specs.SpaceList.{SpaceList}
use Rattle.tg_rows.specs.Content.{Content, IsNamed}
use Rattle.tg_rows.specs.Rows.{IsVertexAt}
use Rattle.tg_graph.specs.Heap.{HeapState, content_of, subject_names}
use Rattle.tg_graph.specs.Standing.{IsReached}
use Rattle.tg_store.specs.Holding.{common}
use Rattle.tg_store.specs.declared.store.picture.FoundVertices.{FoundVertices}

-- the names of a content are below `made`, and so are those to which its edges lead
pub record AreBelow (c : Content) (made : ℕ) : Type 0 where
  pub names : (x : ℕ) → IsNamed c x → x < made
  pub targets : (a b : ℕ) → HasEdge c.label a b → b < made

-- the names of vertices
abbrev pub names_found : List (ℕ × Place) → List ℕ
names_found vertices = map (λ v. v.0) vertices

-- vertices of a heap, each once, with the set of their names, all below `made`
pub record IsFoundIn (h : SpaceList) (found : FoundVertices) : Type 0 where
  pub named : found.names.keys ≡ names_found found.vertices.items
  pub below : All (λ x. x < found.made) (names_found found.vertices.items)
  pub once : IsDistinct (λ a b. a == b) (names_found found.vertices.items)
  pub placed : All (λ v. IsVertexAt h v.0 v.1) found.vertices.items

-- vertices came after those that were found: none but these, and all of these are found then
pub record FindsMore (old new : FoundVertices) (these : ℕ → Type 0) : Type 0 where
  pub more : List (ℕ × Place)
  pub behind : new.vertices.items ≡ old.vertices.items ++ more
  pub only : (x : ℕ) → Contains (names_found more) x → these x
  pub all : (x : ℕ) → these x → Contains (names_found new.vertices.items) x

-- The same in a heap, where those were found; and so are all of them then.
pub record FindsIn (h : SpaceList) (old new : FoundVertices) (these : ℕ → Type 0) : Type 0 where
  pub found : IsFoundIn h new
  pub made : new.made ≡ old.made
  pub more : FindsMore old new these

-- it is an edge, with all of its rights
pub record IsEdgeOf (label : ℕ → ℕ → RightSet) (edge : Edge) : Type 0 where
  pub there : HasEdge label edge.from edge.to
  pub rights : edge.label ≡ label edge.from edge.to

-- the same, of one that is reached from these subjects
pub record IsReachedEdgeOf (c : Content) (subjects : List ℕ) (edge : Edge) : Type 0 where
  pub from : IsReached c subjects edge.from
  pub is : IsEdgeOf c.label edge

-- these vertices of the heap, by rising name, are exactly those that its subjects reach along the edges of a content
pub record AreReachedAlong (heap : HeapState) (c : Content) (vertices : List (ℕ × Place)) : Type 0 where
  pub placed : All (λ v. IsVertexAt heap.table.spaces v.0 v.1) vertices
  pub rise : AllPairs (λ v w. v.0 < w.0) vertices
  pub names : (x : ℕ) → Contains (names_found vertices) x ↔ IsReached c (subject_names heap) x

-- along the edges of its own
abbrev pub AreReachedIn : HeapState → List (ℕ × Place) → Type 0
AreReachedIn heap = AreReachedAlong heap (content_of heap)

-- the edges to y of these vertices, in their order, each with the name of its vertex
abbrev pub edges_over : (ℕ → ℕ → RightSet) → ℕ → List (ℕ × Place) → List (ℕ × RightSet)
edges_over label y vertices = filter (λ e. not (is_none_held e.1)) (map (λ v. (v.0, label v.0 y)) vertices)

-- the names in the edges that have some of these rights, in their order
abbrev pub names_sharing : RightSet → List (ℕ × RightSet) → List ℕ
names_sharing rights edges = map (λ e. e.0) (filter (λ e. not (is_none_held (common rights e.1))) edges)
