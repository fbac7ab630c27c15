-- What the cells of a heap say: which vertices there are, and the row of references of each.
use Rattle.std.specs.Prelude.{◌≡◌, ◌≢◌, ℕ, ◌-◌, ◌&&◌, ◌==◌, not, Bool, if◌then◌else◌, List, [], ◌∷◌, Option, length, take, drop, map, slice_index}
use Rattle.std.specs.List.{filter, find, flat_map, range_with_len}
use Rattle.tg_rights.specs.RightSet.{RightSet, is_none_held, no_rights}
use Rattle.tg_word.specs.declared.TheConstants.{CELLS}
use Rattle.tg_word.specs.declared.Place.{Place}
use Rattle.tg_word.specs.Word.{place_in, rights_in}
use Rattle.tg_block.specs.declared.TheConstants.{KEY, LINK, NAME}
use Rattle.tg_block.specs.Cells.{object_tag}
use Rattle.tg_block.specs.declared.CellKind.TheVariants.{Object, Chunk}
use Rattle.tg_space.specs.SpaceList.{SpaceList, cell_at, cells_of, space_of}
use Rattle.tg_space.specs.Soundness.{IsKindAt}
use Rattle.tg_space.specs.Rows.{chunks_from, link_at, row_of}
use Rattle.tg_space.specs.Targets.{first_pointer}

-- ---- vertices

-- each place of a space, block by block
abbrev pub places_in : SpaceList → ℕ → List Place
places_in h space =
    flat_map (λ block. map (λ cell. record { space = space; block = block; cell = cell }) (range_with_len 0 CELLS)) (range_with_len 0 (length (space_of h space)))

-- each place that names a cell
abbrev pub places_of : SpaceList → List Place
places_of h = flat_map (places_in h) (range_with_len 0 (length h))

abbrev pub is_object : List ℕ → Bool
is_object words = slice_index words 0 == object_tag

-- the places of all objects
abbrev pub objects_of : SpaceList → List Place
objects_of h = filter (λ p. is_object (cell_at h p)) (places_of h)

-- an object's name, and the key of its payload
abbrev pub name_at : SpaceList → Place → ℕ
name_at h p = slice_index (cell_at h p) NAME

abbrev pub key_at : SpaceList → Place → ℕ
key_at h p = slice_index (cell_at h p) KEY

-- the place of the object with a name
abbrev pub object_named : SpaceList → ℕ → Option Place
object_named h name = find (λ p. name_at h p == name) (objects_of h)

-- the object at the place has this name
pub record IsVertexAt (h : SpaceList) (name : ℕ) (p : Place) : Type 0 where
  pub object : IsKindAt h Object p
  pub named : name_at h p ≡ name

-- ---- rows

-- the references of an object or a chunk, without its link
abbrev pub references_of : List ℕ → List ℕ
references_of words = let first = first_pointer (slice_index words 0) in take (LINK - first) (drop first words)

-- a link leads to these chunks, one after the other, and no further
abbrev pub IsChain : SpaceList → ℕ → List Place → Type 0
IsChain h link [] = link ≡ 0
IsChain h link (p ∷ ps) = (link ≢ 0) × (place_in link ≡ p) × IsKindAt h Chunk p × IsChain h (link_at h p) ps

-- the references of these cells; the empty places are among them
abbrev pub words_of : SpaceList → List Place → List ℕ
words_of h cells = flat_map (λ q. references_of (cell_at h q)) cells

-- the references of a row, in chain order
abbrev pub row_words : SpaceList → Place → List ℕ
row_words h p = words_of h (row_of h p)

-- the name to which a reference refers
abbrev pub name_in : SpaceList → ℕ → ℕ
name_in h word = name_at h (place_in word)

-- the names to which these references refer
abbrev pub names_in : SpaceList → List ℕ → List ℕ
names_in h words = map (name_in h) (filter (λ word. not (word == 0)) words)

-- the rights in the reference to a name
abbrev pub rights_to : SpaceList → ℕ → List ℕ → RightSet
rights_to h name [] = no_rights
rights_to h name (word ∷ words) = if not (word == 0) && (name_in h word == name) then rights_in word else rights_to h name words

-- an object, whose row ends
pub record IsRow (h : SpaceList) (p : Place) : Type 0 where
  pub object : IsKindAt h Object p
  pub ends : IsChain h (link_at h p) (chunks_from h (length (cells_of h)) (link_at h p))

-- the edges that these references make, in their order: the name of each target with the rights
abbrev pub edges_in : SpaceList → List ℕ → List (ℕ × RightSet)
edges_in h words = map (λ word. (name_in h word, rights_in word)) (filter (λ word. not (is_none_held (rights_in word))) words)
