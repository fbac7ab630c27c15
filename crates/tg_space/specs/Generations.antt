-- Generations: which space a collection may copy a cell to, and which cells of Old are remembered.
use Rattle.std.specs.Prelude.{◌≡◌, ◌≢◌, ℕ, ◌<◌, ◌≤◌, ◌⊎◌, List, length, slice_index}
use Rattle.std.specs.List.{Contains}
use Rattle.tg_model.specs.Walks.{Walk}
use Rattle.tg_word.specs.declared.Place.{Place}
use Rattle.tg_word.specs.Word.{place_in}
use Rattle.tg_space.specs.SpaceList.{SpaceList, HasCell, cell_at, cells_of, flat_of}
use Rattle.tg_space.specs.Soundness.{IsOldCell}
use Rattle.tg_space.specs.Targets.{young_spaces, pointers_of, root_targets_of, targets_of}
use Rattle.tg_space.specs.declared.kind.Kind.{Kind}
use Rattle.tg_space.specs.declared.kind.Kind.TheVariants.{Full, Nursery}
use Rattle.tg_space.specs.declared.root.Root.{Root}
use Rattle.tg_space.specs.declared.root.Root.TheVariants.{Row, Remembered}

-- ---- where copies go

-- the cell with a number is one of Aged, or of a nursery
pub record IsAgedCell (h : SpaceList) (c : ℕ) : Type 0 where
  pub place : Place
  pub held : HasCell h place
  pub aged : place.space ≡ 1
  pub at : flat_of h place ≡ c

pub record IsNurseryCell (h : SpaceList) (c : ℕ) : Type 0 where
  pub place : Place
  pub held : HasCell h place
  pub nursery : 2 ≤ place.space
  pub at : flat_of h place ≡ c

-- the cell with a number is copied to this space
pub record GoesTo (forward : List ℕ) (space c : ℕ) : Type 0 where
  pub some : slice_index forward c ≢ 0
  pub there : (place_in (slice_index forward c)).space ≡ space

-- a target of the row of a root, and of a remembered cell
abbrev pub IsRowTarget : SpaceList → List Root → ℕ → Type 0
IsRowTarget h roots c = (p : Place) × Contains roots (Row p) × Contains (root_targets_of young_spaces h (Row p)) c

abbrev pub IsRememberedTarget : SpaceList → List Root → ℕ → Type 0
IsRememberedTarget h roots c = (p : Place) × Contains roots (Remembered p) × Contains (root_targets_of young_spaces h (Remembered p)) c

-- the target d of the cell c, which is copied to this space
pub record IsNextIn (h : SpaceList) (forward : List ℕ) (space c d : ℕ) : Type 0 where
  pub goes : GoesTo forward space c
  pub target : Contains (targets_of young_spaces h c) d

-- Where a nursery collection puts copies. One of an Aged cell is in Old. One of a nursery cell is in Aged only at the end
-- of a walk over cells all copied to Aged, which begins with a target of a row; and in Old only at the end of one over
-- cells all copied to Old, which begins with a target of a remembered cell or with a cell of Aged.
pub record AreSortedByAge (h : SpaceList) (roots : List Root) (forward : List ℕ) : Type 0 where
  pub aged : (c : ℕ) → IsAgedCell h c → slice_index forward c ≢ 0 → GoesTo forward 0 c
  pub to_aged : (c : ℕ) → IsNurseryCell h c → GoesTo forward 1 c → Walk (IsRowTarget h roots) (IsNextIn h forward 1) c
  pub to_old : (c : ℕ) → IsNurseryCell h c → GoesTo forward 0 c → Walk (λ x. IsRememberedTarget h roots x ⊎ IsAgedCell h x) (IsNextIn h forward 0) c

-- a full collection puts all copies in Old
abbrev pub AreInGenerations : Kind → SpaceList → List Root → List ℕ → Type 0
AreInGenerations Full h roots forward = (c : ℕ) → c < length (cells_of h) → slice_index forward c ≢ 0 → GoesTo forward 0 c
AreInGenerations Nursery h roots forward = AreSortedByAge h roots forward

-- ---- remembered cells

-- a reference or link among these words names a cell of Aged or of a nursery
abbrev pub NamesYoung : List ℕ → Type 0
NamesYoung words = (word : ℕ) × Contains (pointers_of words) word × ((place_in word).space ≢ 0)

-- Each cell of Old that names a young one is among these places, and each of them is a cell of Old.
pub record AreRemembered (h : SpaceList) (places : List Place) : Type 0 where
  pub cells : (p : Place) → Contains places p → IsOldCell h p
  pub all : (p : Place) → IsOldCell h p → NamesYoung (cell_at h p) → Contains places p

-- No other cell is among these places.
abbrev pub AreNeeded : SpaceList → List Place → Type 0
AreNeeded h places = (p : Place) → Contains places p → NamesYoung (cell_at h p)
