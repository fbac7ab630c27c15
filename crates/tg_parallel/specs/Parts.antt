-- What one helper of a collection has done, and what it hands over; and the same of several that became one.
use Rattle.std.specs.Prelude.{◌+◌, ◌≡◌, ◌≢◌, ◌⊎◌, ℕ, ◌*◌, ◌<◌, ◌≤◌, true, List, ◌++◌, length, map}
use Rattle.std.specs.List.{All, Contains, flat_map}
use Rattle.tg_word.specs.declared.TheConstants.{CELLS}
use Rattle.tg_word.specs.declared.Place.{Place}
use Rattle.tg_word.specs.Word.{IsPlace, link_to}
use Rattle.tg_block.specs.Cells.{cell_of, free_cell}
use Rattle.tg_space.specs.Soundness.{AreSound}
use Rattle.tg_space.specs.SpaceList.{SpaceList, cells_of}
use Rattle.tg_space.specs.SpaceTable.{SpaceTable, kept_blocks}
use Rattle.tg_space.specs.Targets.{from_space, targets_of, all_root_targets}
use Rattle.tg_space.specs.declared.kind.Kind.{Kind}
use Rattle.tg_space.specs.declared.root.Root.{Root}
use Rattle.tg_race.specs.declared.record.Counts.{Counts}
use Rattle.tg_race.specs.declared.record.Record.{Record}
use Rattle.tg_race.specs.Weights.{weigh, one_at}
use Rattle.tg_race.specs.Race.{chunk_of, owns}
use Rattle.tg_evac.specs.Win.{Win}
use Rattle.tg_evac.specs.Claims.{AreTraced}
use Rattle.tg_evac.specs.Claimers.{image_at}

-- ---- the table of a collection

-- the table was opened with the numbers of these spaces and roots
pub record AreCountsOf (kind : Kind) (h : SpaceList) (roots : List Root) (k : Counts) : Type 0 where
  pub cells : k.cells ≡ length (cells_of h)
  pub root_count : k.roots ≡ length roots
  pub kept : k.kept ≡ kept_blocks kind h

-- the spaces and roots may be collected, and the table was opened with their numbers
pub record IsOpenedFor (kind : Kind) (h : SpaceList) (roots : List Root) (k : Counts) : Type 0 where
  pub sound : AreSound h roots
  pub counts : AreCountsOf kind h roots k

-- ---- what was won

-- the pair of a cell and its place, as a collection's pair: the place is a link
abbrev pub win_of : ℕ × Place → Win
win_of q = record { cell = q.0; word = link_to q.1 }

abbrev pub wins_of : List (ℕ × Place) → List Win
wins_of pairs = map win_of pairs

-- the pair as a helper notes it: twice the number of the cell, and the number of the space, which is Old or Aged
abbrev pub note_of : ℕ × Place → ℕ
note_of q = 2 * q.0 + q.1.space

-- the roots of a chunk, as the race has it; and those of all chunks that a record has claimed
abbrev pub roots_of_chunk : List Root → ℕ → List Root
roots_of_chunk roots c = chunk_of roots c

abbrev pub roots_in : List Root → List ℕ → List Root
roots_in roots chunks = flat_map (roots_of_chunk roots) chunks

-- each win was earned, and has a place of its generation: its cell is a target of a claimed root, or of one of the cell of
-- an earlier win
abbrev pub AreEarned : Kind → SpaceList → List Root → Record → Type 0
AreEarned kind h roots v = AreTraced kind h (roots_in roots v.chunks) (wins_of v.won)

-- ---- what was met

-- the cells that a record has won, or seen with a place
abbrev pub cells_met : Record → List ℕ
cells_met v = map (λ q. q.0) v.won ++ map (λ q. q.0) v.seen

-- every target of the claimed roots and of the won cells was met
pub record HasMetAll (kind : Kind) (h : SpaceList) (roots : List Root) (v : Record) : Type 0 where
  pub from_roots : All (Contains (cells_met v)) (all_root_targets (from_space kind) h (roots_in roots v.chunks))
  pub from_cells : All (λ q. All (Contains (cells_met v)) (targets_of (from_space kind) h q.0)) v.won

-- the map has the place of the pair, where that is in range (as each place in the table is)
abbrev pub HasPlaceOf : (ℕ → Place) → ℕ × Place → Type 0
HasPlaceOf to q = IsPlace q.1 → to q.0 ≡ q.1

-- the map has the places that the record has won and seen
pub record HasPlaces (v : Record) (to : ℕ → Place) : Type 0 where
  pub won : All (HasPlaceOf to) v.won
  pub seen : All (HasPlaceOf to) v.seen

-- ---- blocks with their numbers

abbrev pub Numbered : Type 0
Numbered = List (ℕ × List (List ℕ))

abbrev pub numbers_of : Numbered → List ℕ
numbers_of blocks = map (λ b. b.0) blocks

-- no number is there twice
abbrev pub AreOnce : List ℕ → Type 0
AreOnce numbers = (n : ℕ) → weigh (one_at n) numbers ≤ 1

-- in the block of the space stand the copies of the pairs that have a place in it, and free cells elsewhere
pub record HasCopies (space : ℕ) (copy : ℕ → List ℕ) (won : List (ℕ × Place)) (b : ℕ × List (List ℕ)) : Type 0 where
  pub copied : (q : ℕ × Place) → Contains won q → q.1.space ≡ space → q.1.block ≡ b.0 → cell_of b.1 q.1.cell ≡ copy q.0
  pub rest : (i : ℕ) → i < CELLS → ((q : ℕ × Place) → Contains won q → q.1.space ≡ space → q.1.block ≡ b.0 → q.1.cell ≢ i) → cell_of b.1 i ≡ free_cell

-- the blocks are the copies of the won cells under the map and nothing else
pub record AreImages (kind : Kind) (h : SpaceList) (v : Record) (aged old : Numbered) (to : ℕ → Place) : Type 0 where
  pub in_aged : All (HasCopies 1 (image_at kind h to) v.won) aged
  pub in_old : All (HasCopies 0 (image_at kind h to) v.won) old

-- What a helper hands over with its record, or several whose records became one: where each number was claimed once, as the
-- table's rule has it.
pub record IsPart (kind : Kind) (t : SpaceTable) (roots : List Root) (v : Record) (aged old : Numbered) : Type 0 where
  pub met : HasMetAll kind t.spaces roots v
  pub owned : All (λ q. owns v q.1 ≡ true) v.won
  -- one block for each number that was claimed, below the limit
  pub aged_numbers : numbers_of aged ≡ v.aged_blocks
  pub old_numbers : numbers_of old ≡ v.old_blocks
  pub aged_few : All (λ b. b < t.limits.space_blocks) v.aged_blocks
  pub old_few : All (λ b. b < t.limits.space_blocks) v.old_blocks
  -- whatever map has the places that were won and seen
  pub images : AreOnce v.aged_blocks → AreOnce v.old_blocks → (to : ℕ → Place) → HasPlaces v to → AreImages kind t.spaces v aged old to

-- the record has claimed a block past so many
abbrev pub HasClaimedPast : ℕ → Record → Type 0
HasClaimedPast limit v = (b : ℕ) × (Contains v.aged_blocks b ⊎ Contains v.old_blocks b) × (limit ≤ b)

-- the record has claimed a block past the limit
abbrev pub IsPastLimit : SpaceTable → Record → Type 0
IsPastLimit t v = HasClaimedPast t.limits.space_blocks v
