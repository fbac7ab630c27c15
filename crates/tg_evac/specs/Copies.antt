-- Where the copies of won cells stand, and which of them name young cells.
use Rattle.std.specs.Prelude.{◌≡◌, ◌≢◌, ℕ, ◌-◌, ◌<◌, ◌≤◌, List, [], ◌++◌, length, replicate, slice_index_or}
use Rattle.std.specs.List.{All, Contains, flat_map}
use Rattle.std.specs.Vec.{vec_capacity}
use Rattle.std.specs.declared.vec.Vec.{Vec}
use Rattle.tg_block.specs.declared.TheConstants.{WORDS}
use Rattle.tg_block.specs.Cells.{free_cell, cell_of}
use Rattle.tg_word.specs.declared.TheConstants.{CELLS}
use Rattle.tg_word.specs.declared.Place.{Place}
use Rattle.tg_word.specs.Word.{IsPlace, place_in}
use Rattle.tg_space.specs.Collection.{new_place}
use Rattle.tg_space.specs.Numbering.{AreNumbersOf}
use Rattle.tg_space.specs.SpaceList.{SpaceList, BlockList, IsSpace, cell_at}
use Rattle.tg_space.specs.Targets.{from_space, image_of}
use Rattle.tg_space.specs.declared.kind.Kind.{Kind}
use Rattle.tg_evac.specs.Win.{Win}
use Rattle.tg_evac.specs.Claims.{HavePointers}
use Rattle.tg_evac.specs.Claimers.{image_at}

-- the words of the cell at a place, with its references and its link moved
abbrev pub moved_cell : Kind → SpaceList → List ℕ → Place → List ℕ
moved_cell kind h forward p = image_of (from_space kind) h (new_place forward) (cell_at h p)

-- the copy of the cell with a number
abbrev pub copy_of : Kind → SpaceList → List ℕ → ℕ → List ℕ
copy_of kind h forward = image_at kind h (new_place forward)

-- each forwarding word that isn't 0 has a place in range
abbrev pub HavePlaces : List ℕ → Type 0
HavePlaces forward = All (λ word. IsPlace (place_in word)) forward

-- what each cell names may be moved: it is a cell, which has a word by its number
pub record AreForwarded (h : SpaceList) (starts forward : List ℕ) : Type 0 where
  pub pointers : HavePointers h
  pub numbers : AreNumbersOf h starts (length forward)

-- each forwarding word is 0, or names a place of Old
abbrev pub AreOld : List ℕ → Type 0
AreOld forward = All (λ word. (place_in word).space ≡ 0) forward

-- ---- new blocks, which stand behind as many other ones of their space

-- the place is in these blocks of the space
pub record IsPlaceIn (to kept : ℕ) (blocks : BlockList) (p : Place) : Type 0 where
  pub space : p.space ≡ to
  pub behind : kept ≤ p.block
  pub block : p.block - kept < length blocks
  pub cell : p.cell < CELLS

-- the cell at a place in these blocks
abbrev pub new_cell : ℕ → BlockList → Place → List ℕ
new_cell kept blocks p = cell_of (slice_index_or blocks (p.block - kept) []) p.cell

-- at most as many cells as a block has, each with as many words as a cell has
abbrev pub IsOpenBlock : List (List ℕ) → Type 0
IsOpenBlock cells = (length cells ≤ CELLS) × All (λ words. length words ≡ WORDS) cells

-- full blocks of a space, and the cells of an open one, which has room for all that a block has
pub record HaveOpenBlock {A : Type 0} (full : BlockList) (last : Vec (List ℕ) A) : Type 0 where
  pub space : IsSpace full
  pub fits : IsOpenBlock last.items
  pub cells : CELLS ≤ vec_capacity last

-- the blocks have these cells one after the other, and free ones after the last
pub record HoldCells (cells : List (List ℕ)) (blocks : BlockList) : Type 0 where
  pub free : ℕ
  pub few : free < CELLS
  pub is : flat_map (λ block. block) blocks ≡ cells ++ replicate free free_cell

-- ---- copies

-- the copy of the pair's cell is at the place of the pair's word
pub record HasCopy (to kept : ℕ) (copy : ℕ → List ℕ) (blocks : BlockList) (w : Win) : Type 0 where
  pub place : IsPlaceIn to kept blocks (place_in w.word)
  pub words : new_cell kept blocks (place_in w.word) ≡ copy w.cell

-- the blocks of the space have the copies of these cells that are to be there, and nothing else
pub record HoldCopies (to kept : ℕ) (copy : ℕ → List ℕ) (won : List Win) (blocks : BlockList) : Type 0 where
  pub copied : (w : Win) → Contains won w → (place_in w.word).space ≡ to → HasCopy to kept copy blocks w
  pub rest : (p : Place) → IsPlaceIn to kept blocks p → ((w : Win) → Contains won w → place_in w.word ≢ p) → new_cell kept blocks p ≡ free_cell
