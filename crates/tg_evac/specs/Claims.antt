-- What a collection claims: the cells that were won, in order, each with the word of its new place.
use Rattle.std.specs.Prelude.{◌≡◌, ◌≢◌, ℕ, ◌+◌, ◌-◌, ◌*◌, ◌<◌, ◌≤◌, ◌↔◌, ◌⊎◌, ◌==◌, ◌||◌, Bool, true, false, if◌then◌else◌, not, eqb, List, length, map, slice_index, slice_index_or}
use Rattle.std.specs.List.{All, AllPairs, Contains, IsDistinct, filter, flat_map, take_while}
use Rattle.tg_word.specs.declared.TheConstants.{CELLS, MOST_SPACE_CELLS}
use Rattle.tg_word.specs.declared.Place.{Place}
use Rattle.tg_word.specs.Word.{IsPlace, link_to, place_in}
use Rattle.tg_space.specs.Closure.{IsInClosure}
use Rattle.tg_space.specs.Collection.{copies_in}
use Rattle.tg_space.specs.Soundness.{IsPointer}
use Rattle.tg_space.specs.Rows.{chunks_from, link_at}
use Rattle.tg_space.specs.SpaceList.{SpaceList, HasCell, cell_at, cells_of, flat_of}
use Rattle.tg_space.specs.SpaceTable.{SpaceTable, kept_blocks, place_in_space}
use Rattle.tg_space.specs.Targets.{from_space, cell_numbered, pointers_of, targets_at, targets_of, root_targets_of, all_root_targets}
use Rattle.tg_space.specs.declared.kind.Kind.{Kind}
use Rattle.tg_space.specs.declared.kind.Kind.TheVariants.{Full, Nursery}
use Rattle.tg_space.specs.declared.root.Root.{Root}
use Rattle.tg_space.specs.declared.root.Root.TheVariants.{Row, Remembered}
use Rattle.tg_evac.specs.declared.plan.Plan.{Plan}
use Rattle.tg_evac.specs.Win.{Win}

-- ---- where copies go

-- the space for the copy of a cell of this space: Old where it is met straight, or is of Aged, and else Aged
abbrev pub space_for : Bool → ℕ → ℕ
space_for straight space = if straight || (space == 1) then 0 else 1

-- whether what is met from a root goes straight to Old
abbrev pub is_straight : Kind → Root → Bool
is_straight Full root = true
is_straight Nursery (Row place) = false
is_straight Nursery (Remembered place) = true

-- the copy of the cell is in a space
abbrev pub is_in : ℕ → Win → Bool
is_in space w = (place_in w.word).space == space

-- it is in Old
abbrev pub is_in_old : Win → Bool
is_in_old w = is_in 0 w

-- the plan of a collection of this kind
pub record IsPlanFor (kind : Kind) (t : SpaceTable) (plan : Plan) : Type 0 where
  pub same : plan.kind ≡ kind
  pub kept : plan.kept ≡ kept_blocks kind t.spaces
  pub room : plan.room ≡ CELLS * t.limits.space_blocks

-- every reference and link of a held cell is empty, or names a cell that is not free
pub record HavePointers (h : SpaceList) : Type 0 where
  pub words : (p : Place) → HasCell h p → All (IsPointer h) (pointers_of (cell_at h p))
  pub numbered : (number : ℕ) → number < length (cells_of h) → All (IsPointer h) (pointers_of (cell_numbered h number))
  pub links : (p : Place) → HasCell h p → IsPointer h (link_at h p)

-- the targets of the chunks outside from-space to which a link leads, at most so many
abbrev pub chunk_targets : (ℕ → Bool) → SpaceList → ℕ → ℕ → List ℕ
chunk_targets from h most link = flat_map (targets_at from h) (take_while (λ q. not (from q.space)) (chunks_from h most link))

-- ---- the rule

-- the plan, the forwarding word of each cell, the pairs that were won, and the number of the next new cell of Old and
-- of Aged
pub record Claimed : Type 0 where
  pub plan : Plan
  pub forward : List ℕ
  pub won : List Win
  pub next : List ℕ

-- the cells of pairs
abbrev pub cells_won : List Win → List ℕ
cells_won won = map (λ w. w.cell) won

-- the pairs of these cells and the words that they have
abbrev pub wins_at : List ℕ → List ℕ → List Win
wins_at forward cells = map (λ cell. record { cell = cell; word = slice_index forward cell }) cells

-- the pair at a number
abbrev pub win_at : List Win → ℕ → Win
win_at won k = slice_index_or won k (record { cell = 0; word = 0 })

-- the cell of the pair has the word of the pair, which isn't 0
pub record IsWonIn (forward : List ℕ) (w : Win) : Type 0 where
  pub cell : w.cell < length forward
  pub word : slice_index forward w.cell ≡ w.word
  pub some : w.word ≢ 0

-- the pairs are those of the cells that have a word
pub record AreWordsOf (won : List Win) (forward : List ℕ) : Type 0 where
  pub stand : All (IsWonIn forward) won
  pub every : (c : ℕ) → c < length forward → slice_index forward c ≢ 0 → (w : Win) × Contains won w × (w.cell ≡ c)

-- the word of the pair is the link to a place of Old, after the blocks that stay, or of Aged
pub record HasNewPlace (kept : ℕ) (w : Win) : Type 0 where
  pub place : IsPlace (place_in w.word)
  pub link : w.word ≡ link_to (place_in w.word)
  pub two : (place_in w.word).space < 2
  pub behind : (place_in w.word).space ≡ 0 → kept ≤ (place_in w.word).block

-- the place was given away
abbrev pub IsGiven : List ℕ → Place → Type 0
IsGiven next p = CELLS * p.block + p.cell < slice_index next p.space

-- no place is given twice
abbrev pub AreDistinctWins : List Win → Type 0
AreDistinctWins won = (v w : Win) → Contains won v → Contains won w → v.word ≡ w.word → v.cell ≡ w.cell

-- the pairs whose copies are in a space
abbrev pub won_in : ℕ → List Win → List Win
won_in space won = filter (is_in space) won

-- the number of the first new cell of Old, after the blocks that stay, or of Aged
abbrev pub first_new : ℕ → ℕ → ℕ
first_new kept space = if space == 0 then CELLS * kept else 0

-- the pairs have the places of a space one after the other, from a number on
abbrev pub AreGivenInOrder : ℕ → ℕ → List Win → Type 0
AreGivenInOrder space first won = (k : ℕ) → k < length won → (win_at won k).word ≡ link_to (place_in_space space (first + k))

pub record AreClaims (c : Claimed) : Type 0 where
  pub words : AreWordsOf c.won c.forward
  pub places : All (HasNewPlace c.plan.kept) c.won
  pub given : All (λ w. IsGiven c.next (place_in w.word)) c.won
  pub apart : (i j : ℕ) → i < length c.won → j < length c.won → (win_at c.won i).word ≡ (win_at c.won j).word → (win_at c.won i).cell ≡ (win_at c.won j).cell
  pub distinct : AllPairs (λ v w. v.cell ≢ w.cell) c.won
  pub two : length c.next ≡ 2
  pub few : (space : ℕ) → slice_index c.next space ≤ MOST_SPACE_CELLS
  pub room : c.plan.room ≤ MOST_SPACE_CELLS
  -- the pairs of each space are in order, up to the next number, and are all copies there
  pub in_order : (space : ℕ) → space < 2 → AreGivenInOrder space (first_new c.plan.kept space) (won_in space c.won)
  pub ends : (space : ℕ) → space < 2 → first_new c.plan.kept space + length (won_in space c.won) ≡ slice_index c.next space
  pub copies : (space : ℕ) → space < 2 → copies_in c.forward space ≡ length (won_in space c.won)
  -- where one has new cells, they are within the room
  pub within : (space : ℕ) → space < 2 → slice_index c.next space - first_new c.plan.kept space ≤ c.plan.room - first_new c.plan.kept space

-- as many different cells were won as there is room for
pub record HasFilledRoom (c : Claimed) : Type 0 where
  pub all : c.plan.room ≤ CELLS * c.plan.kept + length (cells_won c.won)
  pub distinct : IsDistinct eqb (cells_won c.won)

-- ---- what claiming does

-- the pair is of the cell with this number, and its copy is in this space
pub record IsWinFor (cell space : ℕ) (w : Win) : Type 0 where
  pub number : w.cell ≡ cell
  pub to : (place_in w.word).space ≡ space

-- the pair is of one of these cells, and its copy is in the space that it has to be in
pub record IsClaimOf (h : SpaceList) (straight : Bool) (cells : List ℕ) (w : Win) : Type 0 where
  pub one : Contains cells w.cell
  pub place : Place
  pub held : HasCell h place
  pub at : flat_of h place ≡ w.cell
  pub to : (place_in w.word).space ≡ space_for straight place.space

-- the pair is of a target of a root
pub record IsRootClaim (kind : Kind) (h : SpaceList) (roots : List Root) (w : Win) : Type 0 where
  pub root : Root
  pub is : Contains roots root
  pub claim : IsClaimOf h (is_straight kind root) (root_targets_of (from_space kind) h root) w

-- each pair is of a target of a root, or of one of the cell of an earlier pair
abbrev pub AreTraced : Kind → SpaceList → List Root → List Win → Type 0
AreTraced kind h roots won =
    (k : ℕ) → k < length won →
    IsRootClaim kind h roots (win_at won k)
    ⊎ ((j : ℕ) × (j < k) × IsClaimOf h (is_in_old (win_at won j)) (targets_of (from_space kind) h (win_at won j).cell) (win_at won k))

-- all that the roots reach was claimed, and nothing else
pub record IsTracedFrom (kind : Kind) (h : SpaceList) (roots : List Root) (c : Claimed) : Type 0 where
  pub whole : length c.forward ≡ length (cells_of h)
  pub traced : AreTraced kind h roots c.won
  pub reached : (n : ℕ) → Contains (cells_won c.won) n ↔ IsInClosure (all_root_targets (from_space kind) h roots) (targets_of (from_space kind) h) n
