-- The table: the counters are the words 0, 1 and 2, and after them stands the word of each cell that may be moved. The first
-- cells lie in blocks that stay, and have no word in the table. What each step shows.
use Rattle.std.specs.Prelude.{◌≡◌, ◌≢◌, ℕ, ◌+◌, ◌-◌, ◌*◌, ◌^◌, ◌<◌, ◌≤◌, ◌==◌, true, false, List, [], ◌∷◌, ◌++◌, if◌then◌else◌, All, map, replicate}
use Rattle.tg_word.specs.declared.TheConstants.{CELLS, MOST_SPACE_BLOCKS}
use Rattle.tg_word.specs.declared.Place.{Place}
use Rattle.atomic_table.specs.Table.{State, Me, Step}
use Rattle.tg_race.specs.declared.record.Counts.{Counts}
use Rattle.tg_race.specs.declared.plays.View.{View}
use Rattle.tg_race.specs.declared.record.Record.{Record}
use Rattle.tg_race.specs.Words.{place_of, place_word, IsForward}
use Rattle.tg_race.specs.Race.{Race, Rule, HasMet, with_chunk, with_seen, with_won, with_claimed_block}
use Rattle.tg_race.specs.Course.{has_met}

-- the numbers with which a table is opened
abbrev pub AreSmall : Counts → Type 0
AreSmall k = (k.cells < 2 ^ 61) × (k.roots < 2 ^ 64) × (k.kept ≤ MOST_SPACE_BLOCKS) × (0 < k.helpers) × (k.helpers < 2 ^ 32) × (CELLS * k.kept ≤ k.cells)

-- how many of the first cells have no word in the table: those of the blocks that Old keeps
abbrev pub skipped_of : Counts → ℕ
skipped_of k = CELLS * k.kept

abbrev pub numbers_of_race : Race → List ℕ → List ℕ
numbers_of_race r moved = r.next_chunk ∷ r.next_aged ∷ r.next_old ∷ moved

-- a seat that isn't spent knows how many cells have no word
abbrev pub KnowsSkipped : Counts → View → Type 0
KnowsSkipped k u = 0 < u.done.share → u.skipped ≡ skipped_of k

-- The table's rule: its words and the records of its seats are those of a race under the rule. In the race each cell has a
-- word: that of a cell with none in the table is 0.
pub record IsBoardOfRace (k : Counts) (s : State ℕ View) : Type 0 where
  pub race : Race
  pub moved : List ℕ
  pub whole : race.words ≡ replicate (skipped_of k) 0 ++ moved
  pub words : s.words ≡ numbers_of_race race moved
  pub records : map (λ u. u.done) s.views ≡ race.records
  pub skipped : All (KnowsSkipped k) s.views
  pub rule : Rule k race
  pub small : AreSmall k

-- the seat with this record
abbrev pub does : View → Record → View
does u v = record { skipped = u.skipped; done = v }

-- the cell whose word is the i-th of the table
abbrev pub number_of_cell : View → ℕ → ℕ
number_of_cell u i = u.skipped + (i - 3)

-- what a step at a counter shows: the record has drawn the number that was found, which is above all that it had
abbrev pub drew_chunk : Step ℕ → Me ℕ View → ℕ → Me ℕ View → Type 0
drew_chunk st m n m' = (m' ≡ (does m.0 (with_chunk m.0.done n), m.1)) × All (λ c. c < n) m.0.done.chunks

abbrev pub drew_aged : Step ℕ → Me ℕ View → ℕ → Me ℕ View → Type 0
drew_aged st m n m' = (m' ≡ (does m.0 (with_claimed_block true m.0.done n), m.1)) × All (λ b. b < n) m.0.done.aged_blocks

abbrev pub drew_old : Step ℕ → Me ℕ View → ℕ → Me ℕ View → Type 0
drew_old st m n m' = (m' ≡ (does m.0 (with_claimed_block false m.0.done n), m.1)) × All (λ b. b < n) m.0.done.old_blocks

-- the word is that of the place with which the record has met the cell, and isn't 0 if it has
abbrev pub IsRecorded : Record → ℕ → ℕ → Type 0
IsRecorded v cell n = ((p : Place) → HasMet v cell p → n ≡ place_word p) × (n ≡ 0 → has_met v cell ≡ false)

-- what a load of a cell's word shows: it was 0, or names the place that the record has now seen; and what the record knew
abbrev pub looked : Step ℕ → Me ℕ View → ℕ → Me ℕ View → Type 0
looked st m n m' =
    (n ≢ 0 → IsForward n) × (m' ≡ (does m.0 (if n == 0 then m.0.done else with_seen m.0.done (number_of_cell m.0 st.word, place_of n)), m.1)) × IsRecorded m.0.done (number_of_cell m.0 st.word) n

-- what an exchange at a cell's word shows: where it was 0 the cell is won, else the place that was found is seen
abbrev pub tried : Step ℕ → Me ℕ View → ℕ → Me ℕ View → Type 0
tried st m n m' =
    (n ≢ 0 → IsForward n) × (m' ≡ (does m.0 (if n == 0 then with_won m.0.done (number_of_cell m.0 st.word, place_of st.second) else with_seen m.0.done (number_of_cell m.0 st.word, place_of n)), m.1))

-- the words of the cells, and one record that has done all, are those of a race under the rule
pub record IsClosedTable (k : Counts) (words : List ℕ) (done : Record) : Type 0 where
  pub next_chunk : ℕ
  pub next_aged : ℕ
  pub next_old : ℕ
  pub rule : Rule k (record { next_chunk = next_chunk; next_aged = next_aged; next_old = next_old; words = words; records = done ∷ [] })
