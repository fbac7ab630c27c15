-- Heaps without edges, or with one.
use Rattle.std.specs.Prelude.{◌≡◌, ◌⊎◌, ℕ}
use Rattle.tg_rights.specs.RightSet.{RightSet, no_rights}
use Rattle.tg_model.specs.declared.value.Value.{Value}
use Rattle.tg_model.specs.Graph.{with_rights}
use Rattle.tg_model.specs.Rules.{with_value}
use Rattle.tg_word.specs.declared.Place.{Place}
use Rattle.tg_rows.specs.Content.{Content, IsContent, IsNamed}
use Rattle.tg_rows.specs.Rows.{IsVertexAt}
use Rattle.tg_graph.specs.Heap.{HeapState, content_of}

abbrev pub no_label : ℕ → ℕ → RightSet
no_label x y = no_rights

-- there is no edge
abbrev pub IsBare : Content → Type 0
IsBare c = (x y : ℕ) → c.label x y ≡ no_rights

-- there is one edge, with these rights
abbrev pub HasOneEdge : Content → ℕ → ℕ → RightSet → Type 0
HasOneEdge c x y rights = (a b : ℕ) → c.label a b ≡ with_rights no_label x y rights a b

-- there is one vertex more, which stores this value, and no edge
abbrev pub AddsBare : HeapState → HeapState → ℕ → Value → Type 0
AddsBare old new name value = let content = content_of old in
    IsContent (content_of new) (λ x. IsNamed content x ⊎ (x ≡ name)) no_label (with_value content.value name value)

-- limits and the places of vertices are as they were
pub record KeepsVertices (old new : HeapState) : Type 0 where
  pub limits : new.table.limits ≡ old.table.limits
  pub vertices : (x : ℕ) (p : Place) → IsVertexAt old.table.spaces x p → IsVertexAt new.table.spaces x p
