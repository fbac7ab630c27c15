-- What cells and payloads are of a graph: its content, and when they are those of one.
use Rattle.std.specs.Prelude.{◌≡◌, ◌↔◌, ◌<◌, ℕ, ◌==◌, [], Option, Some, None, IsSome, length, map}
use Rattle.std.specs.List.{IsDistinct}
use Rattle.tg_rights.specs.RightSet.{RightSet, no_rights}
use Rattle.tg_model.specs.declared.value.Value.{Value}
use Rattle.tg_word.specs.declared.Place.{Place}
use Rattle.tg_block.specs.declared.CellKind.TheVariants.{Object}
use Rattle.tg_space.specs.SpaceList.{SpaceList, cells_of}
use Rattle.tg_space.specs.SpaceTable.{SpaceTable, IsFull}
use Rattle.tg_nursery.specs.Allocation.{HasFewerLeft}
use Rattle.tg_space.specs.Soundness.{AreSound, IsKindAt}
use Rattle.tg_payload.specs.Table.{Payloads, entry}
use Rattle.tg_rows.specs.declared.cells.Found.{Found}
use Rattle.tg_rows.specs.Content.{Content}
use Rattle.tg_rows.specs.Rows.{IsChain, key_at, name_at, names_in, object_named, objects_of, rights_to, row_words}
use Rattle.tg_space.specs.Rows.{chunks_from, link_at, row_of}
use Rattle.tg_rows.specs.declared.rows.TheConstants.{SHORT}

-- ---- content

-- the rights of the object at a place, if there is one, over the vertex y
abbrev pub label_from : SpaceList → Option Place → ℕ → RightSet
label_from h None y = no_rights
label_from h (Some p) y = rights_to h y (row_words h p)

-- what the object at a place stores, if there is one
abbrev pub value_from : SpaceList → Payloads → Option Place → Option Value
value_from h payloads None = None
value_from h payloads (Some p) = entry payloads (key_at h p)

-- Read off the words: a vertex for each object, the rights in the references of its row, and the payload under its key.
abbrev pub content_in : SpaceList → Payloads → Content
content_in h payloads = record {
  names = map (name_at h) (objects_of h);
  label = λ x y. label_from h (object_named h x) y;
  value = λ x. value_from h payloads (object_named h x);
}

-- ---- graphs

-- The cells are those of a graph whose vertices store these payloads.
pub record IsGraph (h : SpaceList) (payloads : Payloads) : Type 0 where
  -- each cell has the layout of its kind: references name objects, links name chunks, and no chunk is linked to twice
  pub sound : AreSound h []
  -- each row ends
  pub ends : (p : Place) → IsKindAt h Object p → IsChain h (link_at h p) (chunks_from h (length (cells_of h)) (link_at h p))
  -- a row has at most one reference to each vertex
  pub targets : (p : Place) → IsKindAt h Object p → IsDistinct (λ a b. a == b) (names_in h (row_words h p))
  -- each name is that of one object, and so is each key
  pub names : (p q : Place) → IsKindAt h Object p → IsKindAt h Object q → name_at h p ≡ name_at h q → p ≡ q
  pub keys : (p q : Place) → IsKindAt h Object p → IsKindAt h Object q → key_at h p ≡ key_at h q → p ≡ q
  -- there is a payload under exactly the keys of the objects
  pub payloads_used : (key : ℕ) → IsSome (entry payloads key) ↔ ((p : Place) × IsKindAt h Object p × (key_at h p ≡ key))

-- ---- what a call finds

-- the rights that were found, none where nothing was
abbrev pub rights_found : Option Found → RightSet
rights_found None = no_rights
rights_found (Some found) = found.rights

-- ---- long rows, and nurseries that are used up

-- the row of the object at a place has more cells than may be walked along
abbrev pub IsLongRow : SpaceList → Place → Type 0
IsLongRow h p = SHORT < length (row_of h p)

-- fewer cells of the nursery than this many are left, and it gets no more blocks
pub record IsOutOfCells (t : SpaceTable) (space cells : ℕ) : Type 0 where
  pub few_left : HasFewerLeft t space cells
  pub full : IsFull t space
