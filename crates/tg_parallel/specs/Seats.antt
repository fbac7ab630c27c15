-- What a helper holds while it works: its record, and the places that it gives away in its own blocks, one after the other.
use Rattle.std.specs.Prelude.{◌≡◌, ◌≢◌, ℕ, ◌+◌, ◌*◌, ◌/◌, ◌%◌, ◌^◌, ◌<◌, ◌≤◌, ◌==◌, Bool, true, false, not, List, [], ◌∷◌, ◌++◌, length, slice_index, slice_index_or, vec_capacity, Result, IfErr, IfOk, OnOk}
use Rattle.std.specs.List.{All, AllPairs, Contains, filter}
use Rattle.tg_word.specs.declared.TheConstants.{CELLS, CELL_AT, MOST_SPACE_BLOCKS, MOST_SPACE_CELLS}
use Rattle.tg_word.specs.declared.Place.{Place}
use Rattle.tg_word.specs.Word.{IsPlace, link_to, place_in}
use Rattle.tg_block.specs.Cells.{cell_of, free_cell}
use Rattle.tg_space.specs.Soundness.{IsRootIn}
use Rattle.tg_space.specs.SpaceList.{SpaceList}
use Rattle.tg_space.specs.Targets.{from_space, all_root_targets}
use Rattle.tg_space.specs.declared.kind.Kind.{Kind}
use Rattle.tg_space.specs.declared.root.Root.{Root}
use Rattle.tg_race.specs.declared.record.Record.{Record}
use Rattle.tg_race.specs.Conditions.{blocks_of}
use Rattle.tg_race.specs.Race.{empty, is_chunk, past, used_in}
use Rattle.tg_race.specs.Seats.{Board, Seated}
use Rattle.tg_race.specs.Words.{space_of_age}
use Rattle.tg_evac.specs.declared.copies.Copies.{Copies}
use Rattle.tg_space.specs.declared.room_fault.RoomFault.{RoomFault}
use Rattle.tg_space.specs.declared.room_fault.RoomFault.TheVariants.{HeapFull}
use Rattle.tg_evac.specs.Claims.{HavePointers}
use Rattle.tg_evac.specs.Claimers.{AreScanned, IsClaimLink, Walked}
use Rattle.tg_parallel.specs.declared.own_blocks.OwnBlocks.{OwnBlocks}
use Rattle.tg_parallel.specs.declared.seat.Lists.{Lists}
use Rattle.tg_parallel.specs.Parts.{AreCountsOf, AreEarned, HasClaimedPast, HasPlaces, Numbered, cells_met, numbers_of, roots_in, wins_of}

-- ---- a helper's own blocks of one space

-- each number is greater than those before it
abbrev pub AreRising : List ℕ → Type 0
AreRising numbers = (i j : ℕ) → i < j → j < length numbers → slice_index numbers i < slice_index numbers j

-- the pairs that have their place in a space
abbrev pub pairs_in : ℕ → List (ℕ × Place) → List (ℕ × Place)
pairs_in space won = filter (λ q. q.1.space == space) won

-- the pair at a number
abbrev pub pair_at : List (ℕ × Place) → ℕ → ℕ × Place
pair_at pairs k = slice_index_or pairs k (0, record { space = 0; block = 0; cell = 0 })

-- the k-th place of these blocks, one block after the other
abbrev pub own_place : Bool → List ℕ → ℕ → Place
own_place aged numbers k = record { space = space_of_age aged; block = slice_index numbers (k / CELLS); cell = k % CELLS }

-- The numbers are those of the blocks that the record has claimed in the space, in order, and its won cells of that space
-- have their places one after the other. So each block but the last is full, and a block is claimed only for a cell
pub record AreFilled (aged : Bool) (v : Record) (numbers : List ℕ) (used : ℕ) : Type 0 where
  pub same : numbers ≡ blocks_of aged v
  pub rising : AreRising numbers
  pub room : used ≤ CELLS * length numbers
  pub close : CELLS * length numbers ≤ used + CELLS
  pub few : used ≤ MOST_SPACE_CELLS
  pub ends : length (pairs_in (space_of_age aged) v.won) ≡ used
  pub order : (k : ℕ) → k < used → (pair_at (pairs_in (space_of_age aged) v.won) k).1 ≡ own_place aged numbers k
  -- so many cells at least lie in each block
  pub many : (i n : ℕ) → i < length numbers → n ≤ CELLS → CELLS * i + n ≤ used → n ≤ used_in (space_of_age aged) (slice_index numbers i) v.won

-- so many won cells of the record have their place in the space
abbrev pub cells_used : Bool → Record → ℕ
cells_used aged v = length (pairs_in (space_of_age aged) v.won)

-- as many words are left before the last block's end as places are left, after so many that were given away (a cell's number begins at `CELL_AT`, so a step of a cell divides a link)
abbrev pub LeavesPlaces : ℕ → OwnBlocks → Type 0
LeavesPlaces used b = b.next + 2 ^ CELL_AT * (CELLS * length b.numbers.items) ≡ b.end + 2 ^ CELL_AT * used

-- the next word is that of the next place, after so many, in a block that the layout can name
pub record IsSeatReady (used : ℕ) (b : OwnBlocks) : Type 0 where
  pub left : LeavesPlaces used b
  pub few : slice_index b.numbers.items (used / CELLS) < MOST_SPACE_BLOCKS
  pub next : b.next ≡ link_to (own_place b.aged b.numbers.items used)

-- As long as places are left, the next one is known. Where none is, all blocks are full, or the last one is past the limit.
pub record KnowsNext (limit : ℕ) (v : Record) (b : OwnBlocks) : Type 0 where
  pub some : b.next ≢ b.end → IsSeatReady (cells_used b.aged v) b
  pub none : b.next ≡ b.end → b.is_past ≡ false → cells_used b.aged v ≡ CELLS * length b.numbers.items
  pub past : b.is_past ≡ true → (b.next ≡ b.end) × (n : ℕ) × Contains b.numbers.items n × (limit ≤ n)

-- the blocks of the other space stay as they are
abbrev pub OtherStays : Bool → Record → Record → Type 0
OtherStays aged v w = (numbers : List ℕ) (used : ℕ) → AreFilled (not aged) v numbers used → AreFilled (not aged) w numbers used

-- nothing but blocks was claimed
pub record OnlyBlocks (v w : Record) : Type 0 where
  pub chunks : w.chunks ≡ v.chunks
  pub won : w.won ≡ v.won
  pub seen : w.seen ≡ v.seen
  pub share : w.share ≡ v.share

-- ---- one claim

-- The record may have won the cell, for a place in the space, or seen it, and may have claimed blocks. Nothing else.
pub record Finds (cell : ℕ) (aged : Bool) (v w : Record) : Type 0 where
  pub won : List (ℕ × Place)
  pub one : length won ≤ 1
  pub is_won : w.won ≡ v.won ++ won
  pub reasons : All (λ q. (q.0 ≡ cell) × (q.1.space ≡ space_of_age aged) × IsPlace q.1) won
  pub seen : List (ℕ × Place)
  pub is_seen : w.seen ≡ v.seen ++ seen
  pub chunks : w.chunks ≡ v.chunks
  pub share : w.share ≡ v.share

-- ---- what the blocks of a space do for a claim

-- the list has room for the number of one block more than cells with so many words fill
abbrev pub HasRoomForNumbers : ℕ → OwnBlocks → Type 0
HasRoomForNumbers words b = words < CELLS * vec_capacity b.numbers

-- the helper sits at the table, and the blocks are those that it has claimed, filled in order with what it has won
pub record HoldsBlocks (board : Board) (helper : Seated) (b : OwnBlocks) : Type 0 where
  pub own : helper.table ≡ board.table
  pub filled : AreFilled b.aged helper.done b.numbers.items (cells_used b.aged helper.done)
  pub room : HasRoomForNumbers board.table.id.words b

-- fewer cells were won than the table has words for cells, and twice the cell's number is a word
pub record HasRoomFor (board : Board) (cell : ℕ) (helper : Seated) : Type 0 where
  pub small : cell < 2 ^ 61
  pub room : length helper.done.won + 3 < board.table.id.words

-- they stay so, whatever else the helper has done, and the blocks of the other space stay as they are
pub record StayFilled (before : OwnBlocks) (old : Seated) (after : OwnBlocks) (new : Seated) : Type 0 where
  pub space : after.aged ≡ before.aged
  pub seat : new.table ≡ old.table
  pub filled : AreFilled before.aged new.done after.numbers.items (cells_used before.aged new.done)
  pub other : OtherStays before.aged old.done new.done
  pub room : vec_capacity after.numbers ≡ vec_capacity before.numbers

-- a block with this number was claimed after these ones
pub record IsNumberDrawn (before : OwnBlocks) (old : Seated) (after : OwnBlocks) (new : Seated) (number : ℕ) : Type 0 where
  pub stay : StayFilled before old after new
  pub blocks : OnlyBlocks old.done new.done
  pub next : after.next ≡ before.next
  pub end : after.end ≡ before.end
  pub past : after.is_past ≡ before.is_past
  pub drawn : after.numbers.items ≡ before.numbers.items ++ number ∷ []

-- the next place is known; it is refused where that is past the limit
pub record AreReady {T : Type 0} (limit : ℕ) (before : OwnBlocks) (old : Seated) (after : OwnBlocks) (new : Seated) (result : Result T RoomFault) : Type 0 where
  pub stay : StayFilled before old after new
  pub blocks : OnlyBlocks old.done new.done
  pub next : KnowsNext limit new.done after
  pub some : OnOk result (after.next ≢ after.end)
  pub full : IfErr result (λ fault. fault ≡ HeapFull → HasClaimedPast limit new.done)

-- the cell has a place, whose word is answered: the next one of these blocks, unless it had one
pub record FindsNext (cell : ℕ) (before : OwnBlocks) (old : Seated) (after : OwnBlocks) (new : Seated) (word : ℕ) : Type 0 where
  pub stay : StayFilled before old after new
  pub finds : Finds cell before.aged old.done new.done
  pub left : LeavesPlaces (cells_used before.aged new.done) after
  pub next : after.next ≢ after.end → IsSeatReady (cells_used before.aged new.done) after
  pub past : after.is_past ≡ before.is_past
  pub met : Contains (cells_met new.done) cell
  pub link : IsClaimLink word
  pub known : (to : ℕ → Place) → HasPlaces new.done to → to cell ≡ place_in word

-- and a block was claimed for it where none had a place left; it is refused where that is past the limit
pub record GivePlace (limit cell : ℕ) (before : OwnBlocks) (old : Seated) (after : OwnBlocks) (new : Seated) (result : Result ℕ RoomFault) : Type 0 where
  pub stay : StayFilled before old after new
  pub finds : Finds cell before.aged old.done new.done
  pub next : KnowsNext limit new.done after
  pub met : OnOk result (Contains (cells_met new.done) cell)
  pub link : IfOk result IsClaimLink
  pub known : IfOk result (λ word. (to : ℕ → Place) → HasPlaces new.done to → to cell ≡ place_in word)
  pub full : IfErr result (λ fault. fault ≡ HeapFull → HasClaimedPast limit new.done)

-- The lists are empty. There is room for each cell that has one of so many words, three of which are counters, and for each block
-- that these cells may fill
pub record AreEmptyLists (words : ℕ) (lists : Lists) : Type 0 where
  pub room : words ≤ vec_capacity lists.won + 3
  pub aged : lists.aged.items ≡ []
  pub old : lists.old.items ≡ []
  pub aged_room : words < CELLS * vec_capacity lists.aged
  pub old_room : words < CELLS * vec_capacity lists.old

-- and for no more, where a room wasn't enough for the won cells
pub record AreSmallLists (words room : ℕ) (lists : Lists) : Type 0 where
  pub won : room < words → vec_capacity lists.won ≡ words
  pub aged : vec_capacity lists.aged ≤ words / CELLS + 1
  pub old : vec_capacity lists.old ≤ words / CELLS + 1

-- ---- a seat

-- the kind of the collection, how many blocks a space may have, the table, and what the helper has done
pub record Sitting : Type 0 where
  pub kind : Kind
  pub limit : ℕ
  pub board : Board
  pub done : Record

-- the helper sits at the table; its won cells are cells of it that differ, each with a place in range; and its blocks of
-- Aged and of Old are filled in order
pub record IsSeat (limit : ℕ) (board : Board) (helper : Seated) (aged old : OwnBlocks) : Type 0 where
  pub own : helper.table ≡ board.table
  pub few : limit ≤ MOST_SPACE_BLOCKS
  pub small : board.counts.cells < 2 ^ 61
  pub whole : board.table.id.words + CELLS * board.counts.kept ≡ board.counts.cells + 3
  pub differ : AllPairs (λ q r. q.0 ≢ r.0) helper.done.won
  pub inside : All (λ q. q.0 < board.counts.cells) helper.done.won
  pub behind : All (λ q. CELLS * board.counts.kept ≤ q.0) helper.done.won
  pub places : All (λ q. IsPlace q.1 × (q.1.space < 2)) helper.done.won
  pub is_aged : aged.aged ≡ true
  pub is_old : old.aged ≡ false
  pub in_aged : AreFilled true helper.done aged.numbers.items (cells_used true helper.done)
  pub in_old : AreFilled false helper.done old.numbers.items (cells_used false helper.done)
  pub aged_next : KnowsNext limit helper.done aged
  pub old_next : KnowsNext limit helper.done old
  pub aged_room : HasRoomForNumbers board.table.id.words aged
  pub old_room : HasRoomForNumbers board.table.id.words old

-- what no claim of a cell changes: the table, the chunks of roots that were claimed, and the share
abbrev pub Fixed : Type 0
Fixed = Board × List ℕ × ℕ

-- what a walk sees of a seat
abbrev pub walked_at : Sitting → Walked Fixed
walked_at s = record {
  kind = s.kind;
  kept = s.board.counts.kept;
  room = CELLS * s.limit;
  cells = s.board.counts.cells;
  fixed = (s.board, s.done.chunks, s.done.share);
  won = wins_of s.done.won;
  met = cells_met s.done;
}

-- ---- what was worked

-- the seat is the same one, at the same table
pub record IsSameSeat (a b : Sitting) : Type 0 where
  pub kind : b.kind ≡ a.kind
  pub limit : b.limit ≡ a.limit
  pub board : b.board ≡ a.board
  pub share : b.done.share ≡ a.done.share

-- a chunk was claimed, after these ones, of which none is past the last
pub record HasDrawn (before : List ℕ) (chunk : ℕ) (s : Sitting) : Type 0 where
  pub is : s.done.chunks ≡ before ++ chunk ∷ []
  pub before_last : All (λ c. is_chunk s.board.counts c ≡ true) before

-- All that the roots of these chunks lead to was copied: their targets are met, and all won cells were scanned, whose copies
-- are in order
pub record HasCopied (kind : Kind) (h : SpaceList) (roots : List Root) (chunks : List ℕ) (s : Sitting) (scanned : ℕ) (aged old : List (List ℕ)) : Type 0 where
  pub met : All (Contains (cells_met s.done)) (all_root_targets (from_space kind) h (roots_in roots chunks))
  pub all : scanned ≡ length s.done.won
  pub copies : AreScanned h (walked_at s) (HasPlaces s.done) scanned aged old

-- a helper at a table that was opened for a collection of this kind, of these spaces, from these roots
pub record MayWork (kind : Kind) (h : SpaceList) (roots : List Root) (s : Sitting) : Type 0 where
  pub pointers : HavePointers h
  pub roots_held : All (IsRootIn h) roots
  pub same : s.kind ≡ kind
  pub counts : AreCountsOf kind h roots s.board.counts

-- and which has done nothing yet
pub record MayBegin (kind : Kind) (h : SpaceList) (roots : List Root) (s : Sitting) : Type 0 where
  pub seat : MayWork kind h roots s
  pub fresh : s.done ≡ empty 1

-- what it has won is earned, and it shows that the heap is full only where it has claimed a block past the limit
pub record HasWorked {T : Type 0} (kind : Kind) (h : SpaceList) (roots : List Root) (before after : Sitting) (result : Result T RoomFault) : Type 0 where
  pub same : IsSameSeat before after
  pub earned : AreEarned kind h roots after.done
  pub full : IfErr result (λ fault. fault ≡ HeapFull → HasClaimedPast after.limit after.done)

-- all chunks of roots were claimed, and what the helper won was copied
pub record HasWorkedAll (kind : Kind) (h : SpaceList) (roots : List Root) (before after : Sitting) (result : Result Copies RoomFault) : Type 0 where
  pub worked : HasWorked kind h roots before after result
  pub last : OnOk result (0 < past after.board.counts after.done)
  pub copied : IfOk result (λ copies. HasCopied kind h roots after.done.chunks after copies.scanned copies.aged copies.old)

-- ---- what is handed over

-- the block at a number
abbrev pub block_at : Numbered → ℕ → List (List ℕ)
block_at blocks i = (slice_index_or blocks i (0, [])).1

-- The cells are in these blocks, one block after the other, and free ones after the last. Each block has its number.
pub record AreLaidOut (cells : List (List ℕ)) (numbers : List ℕ) (blocks : Numbered) : Type 0 where
  pub numbered : numbers_of blocks ≡ numbers
  pub stand : (i j : ℕ) → i < length numbers → j < CELLS → cell_of (block_at blocks i) j ≡ slice_index_or cells (CELLS * i + j) free_cell
