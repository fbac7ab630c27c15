-- What a snapshot shows of vertices of a heap, list by list.
use Rattle.std.specs.Prelude.{◌≡◌, ℕ, false, List, EachIndex}
use Rattle.std.specs.List.{All, Contains}
use Rattle.tg_rights.specs.RightSet.{is_none_held}
use Rattle.tg_model.specs.declared.edge.Edge.{Edge}
use Rattle.tg_model.specs.Graph.{HasEdge}
use Rattle.tg_model.specs.Opened.{label_in}
use Rattle.tg_snapshot.specs.declared.vertex.ShownVertex.{ShownVertex}
use Rattle.tg_snapshot.specs.Snapshot.{ComesAfter, EdgePrecedes, NamePrecedes, ShowsName, value_shown}
use Rattle.tg_rows.specs.Content.{Content}

-- the list has each vertex of these names with what it stores, and no other, by rising name
pub record ShowsValues (c : Content) (names : List ℕ) (shown : List ShownVertex) : Type 0 where
  pub values : (y : ℕ) → Contains names y → value_shown shown y ≡ c.value y
  pub only : (y : ℕ) → ShowsName shown y → Contains names y
  pub rise : EachIndex shown (ComesAfter NamePrecedes shown)

-- the list has each edge of the vertices of these names with all of its rights, and no other, by rising ends
pub record ShowsEdges (c : Content) (names : List ℕ) (edges : List Edge) : Type 0 where
  pub labels : (x y : ℕ) → Contains names x → label_in edges x y ≡ c.label x y
  pub only : (x y : ℕ) → HasEdge (label_in edges) x y → Contains names x
  pub rise : EachIndex edges (ComesAfter EdgePrecedes edges)
  pub held : All (λ e. is_none_held e.label ≡ false) edges
