-- Where the vertices of a snapshot are in its list, and where they are in a heap.
use Rattle.std.specs.Prelude.{◌≡◌, ℕ, ◌<◌, List, length, slice_index_or}
use Rattle.tg_word.specs.declared.Place.{Place}
use Rattle.tg_space.specs.SpaceList.{SpaceList}
use Rattle.tg_rows.specs.Rows.{IsVertexAt}
use Rattle.tg_snapshot.specs.declared.vertex.ShownVertex.{ShownVertex}

-- the vertex at this place of the list has this name
pub record IsLineOf (vertices : List ShownVertex) (name at : ℕ) : Type 0 where
  pub inside : at < length vertices
  pub named : (d : ShownVertex) → (slice_index_or vertices at d).name ≡ name

-- there is a place for each vertex of the list, and the vertex is there
pub record ArePlaced (h : SpaceList) (vertices : List ShownVertex) (places : List Place) : Type 0 where
  pub long : length places ≡ length vertices
  pub each : (at : ℕ) (d : ShownVertex) (p : Place) → at < length vertices → IsVertexAt h (slice_index_or vertices at d).name (slice_index_or places at p)
