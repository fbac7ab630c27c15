-- Heaps in which vertices of a snapshot were made, and no edge was added yet.
use Rattle.std.specs.Prelude.{◌≡◌, ◌≢◌, ◌⊎◌, ℕ, ◌+◌, ◌<◌, ◌≤◌, ◌++◌, List, [], ◌∷◌, length, slice_index_or}
use Rattle.std.specs.List.{All}
use Rattle.tg_word.specs.declared.TheConstants.{MAX_NURSERIES}
use Rattle.tg_rows.specs.Content.{IsNamed}
use Rattle.tg_rows.specs.Rows.{IsVertexAt}
use Rattle.tg_graph.specs.Heap.{HeapState, IsActive, KeepsPlaces, content_of, subject_names}
use Rattle.tg_snapshot.specs.declared.vertex.ShownVertex.{ShownVertex}
use Rattle.tg_snapshot.specs.Snapshot.{Saved, ShowsName, stored_in}
use Rattle.tg_rebuild.specs.declared.scaffold.Scaffold.{Scaffold}
use Rattle.tg_rebuild.specs.Inner.Bare.{IsBare, KeepsVertices}

-- there is no edge, each vertex was made in the snapshot, and stores what its graph has there
pub record IsBareOf (p : Saved) (s : HeapState) : Type 0 where
  pub bare : IsBare (content_of s)
  pub made : (x : ℕ) → IsNamed (content_of s) x → x < p.picture.made
  pub values : (x : ℕ) → IsNamed (content_of s) x → (content_of s).value x ≡ stored_in p x

-- ---- subjects

-- who is active once all subjects were made: the vertex 0 if the snapshot has no subject
abbrev pub acting : List ℕ → List ℕ
acting [] = 0 ∷ []
acting (x ∷ xs) = x ∷ xs

-- the first of these
abbrev pub holder_among : List ℕ → ℕ
holder_among [] = 0
holder_among (x ∷ xs) = x

-- the same, and there are only the vertex 0 and active subjects
pub record IsRaised (p : Saved) (s : HeapState) : Type 0 where
  pub base : IsBareOf p s
  pub named : (x : ℕ) → IsNamed (content_of s) x → (x ≡ 0) ⊎ IsActive s x

-- a subject of the snapshot may be made for the holder: its name is above those of all active subjects
pub record CanSpawn (p : Saved) (worker name : ℕ) (s : HeapState) : Type 0 where
  pub raised : IsRaised p s
  pub active : IsActive s worker
  pub few : length s.subjects < MAX_NURSERIES
  pub above : All (λ x. x < name) (subject_names s)
  pub shown : ShowsName p.vertices name
  pub positive : name ≢ 0

-- the subject was made
pub record Spawns (p : Saved) (name : ℕ) (old new : HeapState) : Type 0 where
  pub raised : IsRaised p new
  pub subjects : subject_names new ≡ subject_names old ++ name ∷ []
  pub kept : KeepsVertices old new

-- the holder alone is active
pub record IsHandedOn (p : Saved) (old new : HeapState) : Type 0 where
  pub raised : IsRaised p new
  pub subjects : subject_names new ≡ holder_among p.picture.subjects ∷ []
  pub kept : KeepsVertices old new

-- all subjects are active, the holder is one of them, and the vertex 0 is where it is reported
pub record IsReady (p : Saved) (scaffold : Scaffold) (s : HeapState) : Type 0 where
  pub raised : IsRaised p s
  pub holder : IsActive s scaffold.holder
  pub zero : IsVertexAt s.table.spaces 0 scaffold.zero

-- ---- the other vertices

-- the name is below those of the vertices from this place of the list on
abbrev pub IsBelowRest : List ShownVertex → ℕ → ℕ → Type 0
IsBelowRest vertices at x = (k : ℕ) (d : ShownVertex) → at ≤ k → k < length vertices → x < (slice_index_or vertices k d).name

-- besides the vertex 0 and active subjects there are only vertices from before this place of the list
pub record AreMadeUpTo (p : Saved) (at : ℕ) (s : HeapState) : Type 0 where
  pub base : IsBareOf p s
  pub named : (x : ℕ) → IsNamed (content_of s) x → ((x ≡ 0) ⊎ IsActive s x) ⊎ IsBelowRest p.vertices at x

-- the vertex at this place of the list may be made, if it isn't there
pub record CanPlace (p : Saved) (at : ℕ) (scaffold : Scaffold) (s : HeapState) : Type 0 where
  pub made : AreMadeUpTo p at s
  pub inside : at < length p.vertices
  pub holder : IsActive s scaffold.holder
  pub zero : IsVertexAt s.table.spaces 0 scaffold.zero

-- it is there
pub record IsPlaced (p : Saved) (at : ℕ) (old new : HeapState) : Type 0 where
  pub made : AreMadeUpTo p (at + 1) new
  pub kept : KeepsPlaces old new
