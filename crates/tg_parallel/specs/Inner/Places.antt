-- What a helper is asked for before it claims a chunk of roots, a block or a place, and what it then has.
use Rattle.std.specs.Prelude.{◌≡◌, ◌≢◌, ◌+◌, ◌*◌, ◌<◌, ◌≤◌, ℕ, Bool, All, IsTrue, length}
use Rattle.tg_word.specs.declared.TheConstants.{CELLS, MOST_SPACE_BLOCKS}
use Rattle.tg_word.specs.Word.{IsPlace}
use Rattle.tg_race.specs.Conditions.{blocks_of, can_claim_block, can_claim_roots}
use Rattle.tg_race.specs.Race.{with_chunk, with_claimed_block}
use Rattle.tg_race.specs.declared.race_table.CellWord.{CellWord}
use Rattle.tg_race.specs.Seats.{Board, IsWordIn, Seated}
use Rattle.tg_parallel.specs.declared.own_blocks.OwnBlocks.{OwnBlocks}
use Rattle.tg_parallel.specs.Seats.{HasRoomFor, HoldsBlocks, IsSeatReady, KnowsNext, cells_used}

-- so many cells were won, and more, each for a place of Old or of Aged
pub record HasWonAt (k : ℕ) (helper : Seated) : Type 0 where
  pub low : k < length helper.done.won
  pub places : All (λ q. IsPlace q.1 × (q.1.space < 2)) helper.done.won

-- ---- chunks of roots

pub record MayDrawRoots (board : Board) (helper : Seated) : Type 0 where
  pub own : helper.table ≡ board.table
  pub allowed : IsTrue (can_claim_roots board.counts helper.done)

-- a chunk after all that it has claimed
pub record DrawsRoots (old new : Seated) (chunk : ℕ) : Type 0 where
  pub drawn : new ≡ record old { done = with_chunk old.done chunk }
  pub fresh : All (λ c. c < chunk) old.done.chunks

-- ---- blocks

pub record MayDrawBlock (aged : Bool) (board : Board) (helper : Seated) : Type 0 where
  pub own : helper.table ≡ board.table
  pub allowed : IsTrue (can_claim_block aged helper.done)

-- a block after all that it has claimed in the space
pub record DrawsBlock (aged : Bool) (old new : Seated) (number : ℕ) : Type 0 where
  pub drawn : new ≡ record old { done = with_claimed_block aged old.done number }
  pub fresh : All (λ b. b < number) (blocks_of aged old.done)

-- a cell isn't won yet, and all blocks are full
pub record MayDraw (board : Board) (helper : Seated) (b : OwnBlocks) : Type 0 where
  pub held : HoldsBlocks board helper b
  pub room : length helper.done.won + 3 < board.table.id.words
  pub full : cells_used b.aged helper.done ≡ CELLS * length b.numbers.items

-- a cell isn't won yet, and the next place is known
pub record MayMakeReady (limit : ℕ) (board : Board) (helper : Seated) (b : OwnBlocks) : Type 0 where
  pub held : HoldsBlocks board helper b
  pub room : length helper.done.won + 3 < board.table.id.words
  pub few : limit ≤ MOST_SPACE_BLOCKS
  pub next : KnowsNext limit helper.done b

-- a cell isn't won yet, and the next place is ready for it
pub record MayFindNext (board : Board) (at : CellWord) (helper : Seated) (b : OwnBlocks) : Type 0 where
  pub held : HoldsBlocks board helper b
  pub word : IsWordIn board at
  pub room : HasRoomFor board at.cell helper
  pub ready : IsSeatReady (cells_used b.aged helper.done) b
  pub some : b.next ≢ b.end
