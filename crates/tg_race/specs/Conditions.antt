-- When a helper may do what: each event's condition on the helper's own record, stated once. The world tests it, and the
-- calls of a helper at the table require it.
use Rattle.std.specs.Prelude.{◌≡◌, ℕ, ◌*◌, ◌<◌, ◌≤◌, ◌==◌, ◌&&◌, Bool, IsTrue, not, nat_lt, List, length, if◌then◌else◌}
use Rattle.std.specs.List.{list_any, list_all}
use Rattle.tg_word.specs.declared.Place.{Place}
use Rattle.tg_word.specs.declared.TheConstants.{CELLS}
use Rattle.tg_word.specs.Word.{IsPlace}
use Rattle.tg_race.specs.declared.race_table.CellWord.{CellWord}
use Rattle.tg_race.specs.declared.record.Counts.{Counts}
use Rattle.tg_race.specs.declared.record.Record.{Record}
use Rattle.tg_race.specs.Words.{IsForward, place_of, same_place, space_of_age}
use Rattle.tg_race.specs.Race.{is_chunk, has_room, owns}
use Rattle.tg_race.specs.Seats.{Board, Seated, IsWordIn}

-- a chunk of roots is claimed only by a record that has none past the last
abbrev pub can_claim_roots : Counts → Record → Bool
can_claim_roots k v = list_all (is_chunk k) v.chunks

abbrev pub blocks_of : Bool → Record → List ℕ
blocks_of aged v = if aged then v.aged_blocks else v.old_blocks

-- a block is claimed only by a record whose blocks of that space are full
abbrev pub can_claim_block : Bool → Record → Bool
can_claim_block aged v =
    list_all (λ b. not (has_room (space_of_age aged) v.won b)) (blocks_of aged v)

-- whether one of the record's won cells has the place
abbrev pub uses : Record → Place → Bool
uses v p = list_any (λ q. same_place q.1 p) v.won

-- a place is given only by a record that has claimed its block and hasn't used it
abbrev pub can_use : Record → Place → Bool
can_use v p = owns v p && not (uses v p)

-- the record has done nothing yet
abbrev pub is_new : Record → Bool
is_new v =
    (length v.chunks == 0) && (length v.won == 0) && (length v.seen == 0)
    && (length v.aged_blocks == 0) && (length v.old_blocks == 0)

-- a share is given away only by a new record that keeps one
abbrev pub can_part : Record → Bool
can_part v = is_new v && nat_lt 1 v.share

-- ---- what a call of a helper at a table requires

-- the helper sits at this table, and its event is allowed
pub record MayAct (helper : Seated) (board : Board) (condition : Bool) : Type 0 where
  pub own : helper.table ≡ board.table
  pub allowed : IsTrue condition

-- both helpers sit at this table
pub record SitTogether (mine theirs : Seated) (board : Board) : Type 0 where
  pub own : mine.table ≡ board.table
  pub other : theirs.table ≡ board.table

-- the helper sits at this table, and the cell has a word in it: it isn't in a block that Old keeps
pub record MayLookAtCell (helper : Seated) (board : Board) (cell : ℕ) : Type 0 where
  pub own : helper.table ≡ board.table
  pub inside : cell < board.counts.cells
  pub moved : CELLS * board.counts.kept ≤ cell

-- the same for a cell with its word
pub record MayLookAtWord (helper : Seated) (board : Board) (at : CellWord) : Type 0 where
  pub own : helper.table ≡ board.table
  pub word : IsWordIn board at

-- the helper may look at the cell, and may give this place
pub record MayClaimCell (helper : Seated) (board : Board) (cell : ℕ) (p : Place) : Type 0 where
  pub own : helper.table ≡ board.table
  pub inside : cell < board.counts.cells
  pub moved : CELLS * board.counts.kept ≤ cell
  pub place : IsPlace p
  pub allowed : IsTrue (can_use helper.done p)

-- the same for a cell with its word, and the word of a place
pub record MayClaimWord (helper : Seated) (board : Board) (at : CellWord) (given : ℕ) : Type 0 where
  pub own : helper.table ≡ board.table
  pub word : IsWordIn board at
  pub forward : IsForward given
  pub allowed : IsTrue (can_use helper.done (place_of given))
