-- What one step of a change makes of the cells, and what it keeps.
use Rattle.std.specs.Prelude.{◌≡◌, ℕ, List, [], ◌∷◌, Option, length, ◌≢◌, ◌+◌, ◌≤◌}
use Rattle.std.specs.List.{All}
use Rattle.tg_rights.specs.RightSet.{RightSet}
use Rattle.tg_model.specs.declared.value.Value.{Value}
use Rattle.tg_word.specs.declared.Place.{Place}
use Rattle.tg_block.specs.Cells.{object_tag}
use Rattle.tg_block.specs.declared.CellKind.TheVariants.{Object}
use Rattle.tg_space.specs.SpaceList.{SpaceList, cell_at, space_of}
use Rattle.tg_space.specs.SpaceTable.{SpaceTable, used_of}
use Rattle.tg_space.specs.Soundness.{IsKindAt}
use Rattle.tg_payload.specs.Table.{Payloads}
use Rattle.tg_rows.specs.Content.{IsContent}
use Rattle.tg_rows.specs.Rows.{IsVertexAt, name_at}
use Rattle.tg_space.specs.Rows.{row_of}
use Rattle.tg_rows.specs.Graph.{IsGraph, content_in}
use Rattle.tg_nursery.specs.Allocation.{HasRoomLeft}

-- an object with an empty row
abbrev pub vertex_words : ℕ → ℕ → List ℕ
vertex_words name key = object_tag ∷ name ∷ key ∷ 0 ∷ 0 ∷ 0 ∷ 0 ∷ 0 ∷ []

-- The cells are then those of a graph with this content; each vertex is where it was, and there are as many spaces
-- with the same limits.
pub record ChangesTo (old new : SpaceTable) (payloads : Payloads) (named : ℕ → Type 0) (label : ℕ → ℕ → RightSet) (value : ℕ → Option Value) : Type 0 where
  pub graph : IsGraph new.spaces payloads
  pub content : IsContent (content_in new.spaces payloads) named label value
  pub vertices : (x : ℕ) (p : Place) → IsVertexAt old.spaces x p → IsVertexAt new.spaces x p
  pub spaces : length new.spaces ≡ length old.spaces
  pub limits : new.limits ≡ old.limits

-- each row has the cells that it had, word for word
pub record KeepsRows (h after : SpaceList) : Type 0 where
  pub objects : (p : Place) → IsKindAt h Object p → IsKindAt after Object p
  pub names : (p : Place) → IsKindAt h Object p → name_at after p ≡ name_at h p
  pub rows : (p : Place) → IsKindAt h Object p → row_of after p ≡ row_of h p
  pub cells : (p : Place) → IsKindAt h Object p → All (λ q. cell_at after q ≡ cell_at h q) (row_of h p)

-- At most one more cell of a nursery is used. Where the nursery has one left, no space gets a block.
pub record TakesOneCell (old new : SpaceTable) (space : ℕ) : Type 0 where
  pub here : used_of new space ≤ used_of old space + 1
  pub others : (other : ℕ) → other ≢ space → used_of new other ≡ used_of old other
  pub blocks : HasRoomLeft old space 1 → (other : ℕ) → length (space_of new.spaces other) ≡ length (space_of old.spaces other)
