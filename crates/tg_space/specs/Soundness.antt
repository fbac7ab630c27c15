-- Spaces and roots that a collection may be given.
use Rattle.std.specs.Prelude.{◌≡◌, ◌≢◌, ℕ, ◌-◌, ◌<◌, ◌⊎◌, IsTrue, false, List, length, take, drop, slice_index}
use Rattle.std.specs.List.{All}
use Rattle.tg_rights.specs.RightSet.{is_none_held, no_rights}
use Rattle.tg_word.specs.declared.Place.{Place}
use Rattle.tg_word.specs.Word.{is_present, place_in, rights_in}
use Rattle.tg_block.specs.declared.TheConstants.{CHUNK_POINTERS, LINK, OBJECT_POINTERS}
use Rattle.tg_block.specs.Cells.{kind_of}
use Rattle.tg_block.specs.declared.CellKind.{CellKind}
use Rattle.tg_block.specs.declared.CellKind.TheVariants.{Free, Object, Chunk, Bad}
use Rattle.tg_space.specs.SpaceList.{SpaceList, HasCell, cell_at, cells_of}
use Rattle.tg_space.specs.Rows.{link_of}
use Rattle.tg_space.specs.Targets.{cell_numbered}
use Rattle.tg_space.specs.declared.root.Root.{Root}
use Rattle.tg_space.specs.declared.root.Root.TheVariants.{Row, Remembered}

-- the place names an object, or a chunk
pub record IsKindAt (h : SpaceList) (kind : CellKind) (p : Place) : Type 0 where
  pub held : HasCell h p
  pub is : kind_of (cell_at h p) ≡ kind

-- a reference is empty, or has at least one right over an object
pub record RefersTo (h : SpaceList) (word : ℕ) : Type 0 where
  pub present : IsTrue (is_present word)
  pub rights : is_none_held (rights_in word) ≡ false
  pub object : IsKindAt h Object (place_in word)

abbrev pub IsReference : SpaceList → ℕ → Type 0
IsReference h word = (word ≡ 0) ⊎ RefersTo h word

-- a link is empty, or names a chunk and has no rights
pub record LinksTo (h : SpaceList) (word : ℕ) : Type 0 where
  pub present : IsTrue (is_present word)
  pub rights : rights_in word ≡ no_rights
  pub chunk : IsKindAt h Chunk (place_in word)

abbrev pub IsLink : SpaceList → ℕ → Type 0
IsLink h word = (word ≡ 0) ⊎ LinksTo h word

-- what the words of a cell of this kind are: an object has a name, a payload's key, a 0, three references and a
-- link; a chunk has six references and a link
abbrev pub HasLayoutOf : SpaceList → List ℕ → CellKind → Type 0
HasLayoutOf h words Free = Unit {0}
HasLayoutOf h words Object =
    (slice_index words 3 ≡ 0) × All (IsReference h) (take (LINK - OBJECT_POINTERS) (drop OBJECT_POINTERS words)) × IsLink h (link_of words)
HasLayoutOf h words Chunk = All (IsReference h) (take (LINK - CHUNK_POINTERS) (drop CHUNK_POINTERS words)) × IsLink h (link_of words)
HasLayoutOf h words Bad = ⊥

abbrev pub HasLayout : SpaceList → List ℕ → Type 0
HasLayout h words = HasLayoutOf h words (kind_of words)

-- a cell of Old
pub record IsOldCell (h : SpaceList) (p : Place) : Type 0 where
  pub held : HasCell h p
  pub space : p.space ≡ 0

-- a root represents a row, from its object or from a later cell on, or for a remembered cell of Old
abbrev pub IsRootIn : SpaceList → Root → Type 0
IsRootIn h (Row place) = IsKindAt h Object place ⊎ IsKindAt h Chunk place
IsRootIn h (Remembered place) = IsOldCell h place

pub record AreSound (h : SpaceList) (roots : List Root) : Type 0 where
  pub cells : All (HasLayout h) (cells_of h)
  -- no chunk is linked to twice
  pub links : (c d : ℕ) → c < length (cells_of h) → d < length (cells_of h) → link_of (cell_numbered h c) ≢ 0 → link_of (cell_numbered h c) ≡ link_of (cell_numbered h d) → c ≡ d
  pub roots_held : All (IsRootIn h) roots

-- ---- what tracing uses of it

-- a reference or link is empty, or names a cell that is not free
pub record NamesCell (h : SpaceList) (word : ℕ) : Type 0 where
  pub present : IsTrue (is_present word)
  pub held : HasCell h (place_in word)
  pub used : 0 < slice_index (cell_at h (place_in word)) 0

abbrev pub IsPointer : SpaceList → ℕ → Type 0
IsPointer h word = (word ≡ 0) ⊎ NamesCell h word
