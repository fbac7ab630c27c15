-- Snapshots: what is kept of a graph to go on from it. It is what the active subjects reach, with what is stored there.
use Rattle.std.specs.Prelude.{◌≡◌, ◌≢◌, ◌⊎◌, ℕ, ◌+◌, ◌<◌, ◌≤◌, ◌==◌, nat_lt, false, List, [], ◌∷◌, Option, Some, None, IsSome, unwrap_or, if◌then◌else◌, EachIndex, slice_index_or}
use Rattle.std.specs.List.{HoldsAt}
use Rattle.tg_rights.specs.RightSet.{is_none_held}
use Rattle.tg_model.specs.declared.edge.Edge.{Edge}
use Rattle.tg_model.specs.declared.law.Law.TheVariants.{Cell}
use Rattle.tg_model.specs.declared.value.Value.{Value}
use Rattle.tg_model.specs.declared.opening.TheConstants.{MAX_WORKERS, MAX_LASTING_VERTICES}
use Rattle.tg_model.specs.Graph.{ProtectionGraph, HasEdge, IsReachable}
use Rattle.tg_model.specs.Opened.{ValueFits, label_in}
use Rattle.tg_model.specs.Picture.{Shown}
use Rattle.tg_snapshot.specs.declared.vertex.ShownVertex.{ShownVertex}

-- What contracts see of a snapshot: the picture of what subjects reach, these vertices with what they store, and how many entries were
-- made before.
pub record Saved : Type 0 where
  pub picture : Shown
  pub vertices : List ShownVertex
  pub entries : ℕ

-- ---- which lists are a snapshot

-- what the vertex of this name stores; none where none is shown
abbrev pub value_shown : List ShownVertex → ℕ → Option Value
value_shown [] y = None
value_shown (v ∷ vs) y = if y == v.name then Some v.value else value_shown vs y

-- a vertex of this name is shown
abbrev pub ShowsName : List ShownVertex → ℕ → Type 0
ShowsName vertices y = IsSome (value_shown vertices y)

-- the element at this place comes after the one before it
abbrev pub ComesAfter : {X : Type 0} → (X → X → Type 0) → List X → ℕ → Type 0
ComesAfter {X} precedes xs at = (k : ℕ) (d : X) → k + 1 ≡ at → precedes (slice_index_or xs k d) (slice_index_or xs at d)

abbrev pub NamePrecedes : ShownVertex → ShownVertex → Type 0
NamePrecedes v w = v.name < w.name

-- edges go by the name that holds, and those of one name by the other
abbrev pub EdgePrecedes : Edge → Edge → Type 0
EdgePrecedes e f = (e.from < f.from) ⊎ ((e.from ≡ f.from) × (e.to < f.to))

-- the edge joins two different vertices that are shown, with a right
pub record JoinsShown (vertices : List ShownVertex) (edge : Edge) : Type 0 where
  pub apart : edge.from ≢ edge.to
  pub from : ShowsName vertices edge.from
  pub to : ShowsName vertices edge.to
  pub held : is_none_held edge.label ≡ false

-- what is asked of the vertex at a place: a name above the one before and below the number made, and a state that fits its law
pub record IsVertexLine (made : ℕ) (vertices : List ShownVertex) (at : ℕ) : Type 0 where
  pub rises : ComesAfter NamePrecedes vertices at
  pub below : HoldsAt (λ v. v.name < made) vertices at
  pub fits : HoldsAt (λ v. ValueFits v.value) vertices at

-- what is asked of the subject at a place: a name above the one before, which a vertex has, and a place below 64
pub record IsSubjectLine (vertices : List ShownVertex) (subjects : List ℕ) (at : ℕ) : Type 0 where
  pub few : at < MAX_WORKERS
  pub rises : ComesAfter (λ x y. x < y) subjects at
  pub shown : HoldsAt (ShowsName vertices) subjects at

-- what is asked of the edge at a place: its ends come after those of the one before, differ, and are shown
pub record IsEdgeLine (vertices : List ShownVertex) (edges : List Edge) (at : ℕ) : Type 0 where
  pub rises : ComesAfter EdgePrecedes edges at
  pub joins : HoldsAt (JoinsShown vertices) edges at

-- at most 2^48 vertices may be made, and no more were
abbrev pub HasLimit : Shown → Type 0
HasLimit p = (p.made ≤ p.limit) × (p.limit ≤ MAX_LASTING_VERTICES)

-- The lists are a snapshot. Nothing more is asked: a right that somebody writes into a list is one.
pub record IsSnapshot (p : Saved) : Type 0 where
  pub some_made : 1 ≤ p.picture.made
  pub limit : HasLimit p.picture
  pub vertices : EachIndex p.vertices (IsVertexLine p.picture.made p.vertices)
  pub subjects : EachIndex p.picture.subjects (IsSubjectLine p.vertices p.picture.subjects)
  pub edges : EachIndex p.picture.edges (IsEdgeLine p.vertices p.picture.edges)

-- ---- the graph that a snapshot shows

-- what a vertex stores that was made and isn't shown: no command reaches it
abbrev pub unreached_value : Value
unreached_value = record { law = Cell; state = 0 ∷ [] }

-- each vertex that was made stores something, and only these
abbrev pub stored_in : Saved → ℕ → Option Value
stored_in p y = if nat_lt y p.picture.made then Some (unwrap_or (value_shown p.vertices y) unreached_value) else None

abbrev pub graph_shown : Saved → ProtectionGraph
graph_shown p =
    record { subjects = p.picture.subjects; made = p.picture.made; limit = p.picture.limit; label = label_in p.picture.edges; value = stored_in p }

-- It is a snapshot of this graph: of all that the active subjects reach it shows each value and each edge, and it shows nothing else.
pub record IsSnapshotOf (p : Saved) (g : ProtectionGraph) : Type 0 where
  pub subjects : p.picture.subjects ≡ g.subjects
  pub made : p.picture.made ≡ g.made
  pub limit : p.picture.limit ≡ g.limit
  pub value : (y : ℕ) → IsReachable g y → value_shown p.vertices y ≡ g.value y
  pub label : (x y : ℕ) → IsReachable g x → label_in p.picture.edges x y ≡ g.label x y
  pub no_vertex_else : (y : ℕ) → ShowsName p.vertices y → IsReachable g y
  pub no_edge_else : (x y : ℕ) → HasEdge (label_in p.picture.edges) x y → IsReachable g x
