-- What the laws of the race say: words that no other contract needs.
use lib.ListN.{get_elem?}
use mathlib.Core.Option.{some}
use Rattle.std.specs.Prelude.{◌≡◌, ◌≢◌, ◌↔◌, ◌+◌, ◌*◌, ◌<◌, ◌≤◌, ◌==◌, ℕ, List, IsTrue, length, slice_index, if◌then◌else◌}
use Rattle.tg_word.specs.declared.TheConstants.{CELLS}
use Rattle.tg_word.specs.declared.Place.{Place}
use Rattle.tg_word.specs.Word.{IsPlace}
use Rattle.tg_race.specs.declared.record.Record.{Record}
use Rattle.tg_race.specs.Words.{place_word, has_pair}
use Rattle.tg_race.specs.Board.{IsClosedTable}
use Rattle.tg_race.specs.Weights.{weigh, one_at}
use Rattle.tg_race.specs.Race.{Race, has_number}
use Rattle.tg_race.specs.Course.{Net, counts_of, IsCompleteRecord, IsReachedCell, forwarding_word}

-- ---- places

-- each cell that has a place keeps it
abbrev pub KeepsCellPlaces : Race → Race → Type 0
KeepsCellPlaces old new = (cell : ℕ) → forwarding_word old cell ≢ 0 → forwarding_word new cell ≡ forwarding_word old cell

-- what the record has won is in the words
abbrev pub HasWinsIn : List ℕ → Record → Type 0
HasWinsIn words v = (cell : ℕ) (p : Place) → IsTrue (has_pair cell p v.won) → slice_index words cell ≡ place_word p

-- a cell has a place in the words exactly where the record has won it with this place
abbrev pub HasJustTheWins : Record → List ℕ → Type 0
HasJustTheWins done words =
    (cell : ℕ) (p : Place) → IsPlace p → (slice_index words cell ≡ place_word p) ↔ IsTrue (has_pair cell p done.won)

-- no place was given to two cells
abbrev pub GivesPlacesOnce : List (ℕ × Place) → Type 0
GivesPlacesOnce won =
    (cell other : ℕ) (p : Place) → IsTrue (has_pair cell p won) → IsTrue (has_pair other p won) → cell ≡ other

-- ---- the closure

-- the record with this number represents all helpers
abbrev pub StandsForAll : ℕ → Race → ℕ → Record → Type 0
StandsForAll helpers r id v = (get_elem? r.records id ≡ some v) × (v.share ≡ helpers)

-- the table of a race over this net is closed, and its one record is complete
abbrev pub IsCompleteTable : Net → List ℕ → Record → Type 0
IsCompleteTable net words done = IsClosedTable (counts_of net) words done × IsCompleteRecord net done

-- exactly the cells of the closure of the roots have a place
abbrev pub HasJustTheReached : Net → List ℕ → Type 0
HasJustTheReached net words = (cell : ℕ) → (slice_index words cell ≢ 0) ↔ IsReachedCell net cell

-- ---- blocks

-- the blocks up to each of these are full of won cells, but for so many of them
abbrev pub FillsAllButSome : ℕ → List (ℕ × Place) → List ℕ → Type 0
FillsAllButSome free won blocks = (b : ℕ) → IsTrue (has_number b blocks) → CELLS * (b + 1) ≤ CELLS * free + length won

-- how many cells were won into a space
abbrev pub won_into : ℕ → List (ℕ × Place) → ℕ
won_into space won = weigh (λ q. if q.1.space == space then 1 else 0) won

-- ---- numbers

-- how often the records have drawn this number
abbrev pub times_drawn : (Record → List ℕ) → List Record → ℕ → ℕ
times_drawn of records n = weigh (λ v. weigh (one_at n) (of v)) records

-- each number from the start on and below the counter was drawn once
abbrev pub EachStandsOnce : ℕ → ℕ → (Record → List ℕ) → List Record → Type 0
EachStandsOnce start counter of records = (n : ℕ) → start ≤ n → n < counter → times_drawn of records n ≡ 1
