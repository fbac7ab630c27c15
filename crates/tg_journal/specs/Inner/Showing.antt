-- The lists of a snapshot: what a vertex adds to them, of which graph they are, and the graph that they give.
use Rattle.std.specs.Prelude.{ℕ, List, [], ◌∷◌, Option, Some, None}
use Rattle.tg_model.specs.declared.edge.Edge.{Edge}
use Rattle.tg_model.specs.declared.value.Value.{Value}
use Rattle.tg_model.specs.Graph.{ProtectionGraph}
use Rattle.tg_model.specs.Opened.{label_in}
use Rattle.tg_model.specs.Picture.{Shown}
use Rattle.tg_model.specs.Plain.{Edges}
use Rattle.tg_snapshot.specs.declared.vertex.ShownVertex.{ShownVertex}
use Rattle.tg_snapshot.specs.Snapshot.{Saved, IsSnapshotOf, value_shown}

-- a vertex, if it stores something
abbrev pub shown_if_stored : ℕ → Option Value → List ShownVertex
shown_if_stored name None = []
shown_if_stored name (Some value) = record { name = name; value = value } ∷ []

-- the edges of a row, of the vertex with this name
abbrev pub edges_from : ℕ → Edges → List Edge
edges_from name [] = []
edges_from name (e ∷ row) = record { from = name; to = e.0; label = e.1 } ∷ edges_from name row

-- the picture and the vertices are those of a snapshot of this graph, at whichever place
abbrev pub AreListsOf : ProtectionGraph → Shown → List ShownVertex → Type 0
AreListsOf g picture vertices =
    (n : ℕ) → IsSnapshotOf (record { picture = picture; vertices = vertices; entries = n }) g

-- the graph that the lists of a snapshot give: nobody stores anything but the vertices that are shown
abbrev pub graph_listed : Saved → ProtectionGraph
graph_listed p =
    record { subjects = p.picture.subjects; made = p.picture.made; limit = p.picture.limit; label = label_in p.picture.edges; value = value_shown p.vertices }
