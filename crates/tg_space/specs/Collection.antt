-- What a collection leaves: one forwarding word for each cell, the new blocks, and the cells of Old to be remembered.
use Rattle.std.specs.Prelude.{◌≡◌, ◌≢◌, ◌↔◌, ℕ, ◌+◌, ◌-◌, ◌*◌, ◌/◌, ◌<◌, ◌≤◌, ◌⊎◌, ◌==◌, ◌&&◌, Bool, List, [], drop, length, slice_index, not, count_by}
use Rattle.std.specs.List.{Contains}
use Rattle.tg_word.specs.declared.TheConstants.{CELLS, MOST_SPACE_BLOCKS}
use Rattle.tg_word.specs.declared.Place.{Place}
use Rattle.tg_word.specs.Word.{link_to, place_in}
use Rattle.tg_block.specs.Cells.{free_cell, all_are_zero}
use Rattle.tg_space.specs.SpaceList.{SpaceList, BlockList, HasCell, cell_at, cells_of}
use Rattle.tg_space.specs.SpaceTable.{adopted, kept_blocks}
use Rattle.tg_space.specs.Closure.{IsInClosure}
use Rattle.tg_space.specs.Targets.{from_space, targets_of, all_root_targets, image_of, IsImage}
use Rattle.tg_space.specs.Generations.{AreInGenerations, NamesYoung}
use Rattle.tg_space.specs.declared.copied.Copied.{Copied}
use Rattle.tg_space.specs.declared.kind.Kind.{Kind}
use Rattle.tg_space.specs.declared.kind.Kind.TheVariants.{Full, Nursery}
use Rattle.tg_space.specs.declared.root.Root.{Root}
use Rattle.tg_space.specs.declared.root.Root.TheVariants.{Remembered}

-- What a collection makes: a forwarding word for each cell, the new blocks of Aged and of Old, and the places of the cells of Old
-- to be remembered.
pub record Collected : Type 0 where
  pub forward : List ℕ
  pub aged : BlockList
  pub old : BlockList
  pub notes : List Place

-- what is handed over, without the blocks that it had no use for
abbrev pub collected_in : Copied → Collected
collected_in copied = record { forward = copied.forward.words; aged = copied.adoption.aged; old = copied.adoption.old; notes = copied.remembered.places }

-- ---- room

-- the cells of from-space
abbrev pub moved_cells : Kind → SpaceList → List (List ℕ)
moved_cells Full h = cells_of h
moved_cells Nursery h = cells_of (drop 1 h)

-- how many of them are not free
abbrev pub used_cells : Kind → SpaceList → ℕ
used_cells kind h = count_by (λ words. not (all_are_zero words)) (moved_cells kind h)

-- where a collection by this many helpers may find no room in a space, of whose blocks some are kept: the cells that
-- may have to go there are more than the blocks that it may get can be sure to hold, as each helper may leave one open
abbrev pub MayLackRoom : ℕ → ℕ → ℕ → ℕ → Type 0
MayLackRoom space_blocks helpers kept cells = CELLS * (space_blocks + 1 - helpers - kept) ≤ cells

-- how many blocks so many cells need
abbrev pub blocks_for : ℕ → ℕ
blocks_for cells = (cells + 63) / CELLS

-- the word is that of a copy in a space
abbrev pub is_copy_in : ℕ → ℕ → Bool
is_copy_in space word = not (word == 0) && ((place_in word).space == space)

-- how many copies are in a space
abbrev pub copies_in : List ℕ → ℕ → ℕ
copies_in forward space = count_by (is_copy_in space) forward

-- The new blocks, after those that Old keeps, stay within the limit, and each space has as many as its copies need; or
-- at most this many more, where several helpers fill blocks of their own.
pub record AreFewBlocks (space_blocks kept more : ℕ) (made : Collected) : Type 0 where
  pub aged_within : length made.aged ≤ space_blocks
  pub old_within : length made.old ≤ space_blocks - kept
  pub aged_needed : length made.aged ≤ blocks_for (copies_in made.forward 1) + more
  pub old_needed : length made.old ≤ blocks_for (copies_in made.forward 0) + more

-- ---- places

-- the place is in the new blocks
pub record IsNewPlace (kind : Kind) (h : SpaceList) (aged old : BlockList) (p : Place) : Type 0 where
  pub held : HasCell (adopted kind h aged old) p
  pub behind : p.space ≡ 0 → kept_blocks kind h ≤ p.block

-- where the cell with a number goes
abbrev pub new_place : List ℕ → ℕ → Place
new_place forward c = place_in (slice_index forward c)

-- the cell with a number was copied
abbrev pub IsForwarded : SpaceList → List ℕ → ℕ → Type 0
IsForwarded h forward c = (c < length (cells_of h)) × (slice_index forward c ≢ 0)

-- These will be the words of a cell of Old that the collection made, or has to write to: a copy, or a remembered cell
-- with its references and its link moved.
abbrev pub IsMadeInOld : Kind → SpaceList → List Root → List ℕ → BlockList → BlockList → Place → List ℕ → Type 0
IsMadeInOld kind h roots forward aged old p words =
    (IsNewPlace kind h aged old p × (p.space ≡ 0) × (words ≡ cell_at (adopted kind h aged old) p))
    ⊎ (Contains roots (Remembered p) × (words ≡ image_of (from_space kind) h (new_place forward) (cell_at h p)))

-- ---- the collection

-- This is what a collection from these roots makes.
pub record IsCollection (kind : Kind) (h : SpaceList) (roots : List Root) (made : Collected) : Type 0 where
  -- one forwarding word for each cell
  pub whole : length made.forward ≡ length (cells_of h)
  -- it is 0 exactly for the cells that the roots don't reach
  pub reached : (c : ℕ) → c < length (cells_of h) → slice_index made.forward c ≢ 0 ↔ IsInClosure (all_root_targets (from_space kind) h roots) (targets_of (from_space kind) h) c
  -- any other is the word of a new place, with no rights, where the copy of the cell stands
  pub words : (c : ℕ) → IsForwarded h made.forward c → slice_index made.forward c ≡ link_to (new_place made.forward c)
  pub placed : (c : ℕ) → IsForwarded h made.forward c → IsNewPlace kind h made.aged made.old (new_place made.forward c)
  pub copied : (c : ℕ) → IsForwarded h made.forward c → IsImage (from_space kind) h (new_place made.forward) c (cell_at (adopted kind h made.aged made.old) (new_place made.forward c))
  -- no place is there twice
  pub apart : (c d : ℕ) → IsForwarded h made.forward c → d < length (cells_of h) → slice_index made.forward c ≡ slice_index made.forward d → c ≡ d
  -- nothing else is in the new blocks
  pub rest : (p : Place) → IsNewPlace kind h made.aged made.old p → ((c : ℕ) → c < length (cells_of h) → slice_index made.forward c ≢ link_to p) → cell_at (adopted kind h made.aged made.old) p ≡ free_cell
  -- copies are in the space of their generation
  pub generations : AreInGenerations kind h roots made.forward
  -- the notes are exactly the cells of Old that will name young ones
  pub noted : (p : Place) → Contains made.notes p ↔ ((words : List ℕ) × IsMadeInOld kind h roots made.forward made.aged made.old p words × NamesYoung words)
  -- a full collection leaves no cell in Aged
  pub none_aged : kind ≡ Full → made.aged ≡ []
  -- Old has room for the new blocks
  pub few : kept_blocks kind h + length made.old ≤ MOST_SPACE_BLOCKS
