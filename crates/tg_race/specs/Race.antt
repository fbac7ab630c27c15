-- What the helpers of one collection share, what each has done, and the rule between the two.
use Rattle.std.specs.Prelude.{◌≡◌, ◌≢◌, ◌↔◌, ◌<◌, ℕ, ◌+◌, ◌-◌, ◌/◌, ◌*◌, ◌≤◌, ◌==◌, Bool, true, false, List, [], ◌∷◌, ◌++◌, length, take, drop, if◌then◌else◌, nat_lt, All, IsTrue, ◌⊎◌}
use Rattle.std.specs.List.{list_any, AllPairs, Contains, flat_map}
use mathlib.Core.Option.{some}
use lib.ListN.{get_elem?}
use Rattle.tg_race.specs.declared.record.Counts.{Counts}
use Rattle.tg_race.specs.declared.record.Record.{Record}
use Rattle.tg_word.specs.declared.TheConstants.{CELLS}
use Rattle.tg_word.specs.declared.Place.{Place}
use Rattle.tg_race.specs.Weights.{weigh, weigh_below}
use Rattle.tg_word.specs.Word.{IsPlace}
use Rattle.tg_race.specs.Words.{weigh_words, AreForward, IsPair, has_pair, place_at, lies_in, OLD, AGED}

-- the counter of chunks of roots, those of the blocks of Aged and of Old, a word for each cell, and the record of each helper
pub record Race : Type 0 where
  pub next_chunk : ℕ
  pub next_aged : ℕ
  pub next_old : ℕ
  pub words : List ℕ
  pub records : List Record

-- the record of a helper that has done nothing
abbrev pub empty : ℕ → Record
empty share = record { chunks = []; won = []; seen = []; aged_blocks = []; old_blocks = []; share = share }

-- ---- words of the rule

-- what is in a chunk, which is an eight of the list counted from the end, so that the last chunk may be shorter
abbrev pub chunk_of : {A : Type 0} → List A → ℕ → List A
chunk_of l c = drop (length l - 8 * (c + 1)) (take (length l - 8 * c) l)

-- how many chunks the roots have
abbrev pub chunks_of : Counts → ℕ
chunks_of k = (k.roots + 7) / 8

-- whether there is a chunk with this number: it is not past the last
abbrev pub is_chunk : Counts → ℕ → Bool
is_chunk k c = nat_lt c (chunks_of k)

-- how many chunk numbers past the last a record has claimed
abbrev pub past : Counts → Record → ℕ
past k v = weigh (λ c. if is_chunk k c then 0 else 1) v.chunks

-- how many of the pairs lie in a block
abbrev pub used_in : ℕ → ℕ → List (ℕ × Place) → ℕ
used_in space b won = weigh (λ q. if lies_in space b q.1 then 1 else 0) won

-- whether a block has a place that none of the pairs has
abbrev pub has_room : ℕ → List (ℕ × Place) → ℕ → Bool
has_room space won b = nat_lt (used_in space b won) CELLS

-- how many of the blocks have room
abbrev pub with_room : ℕ → List (ℕ × Place) → List ℕ → ℕ
with_room space won blocks = weigh (λ b. if has_room space won b then 1 else 0) blocks

-- whether the number is in the list
abbrev pub has_number : ℕ → List ℕ → Bool
has_number x = list_any (λ y. y == x)

-- whether the record has claimed the block in which the place lies
abbrev pub owns : Record → Place → Bool
owns v p =
    if p.space == AGED then has_number p.block v.aged_blocks
    else if p.space == OLD then has_number p.block v.old_blocks
    else false

-- The numbers that the records have drawn are those from `start` on and below the counter, each once. It is said by weights, since
-- these add up over events. The law `weights_say_each_once` proves that it means `AreDrawnOnce` of all numbers drawn.
abbrev pub IsDrawn : ℕ → ℕ → (Record → List ℕ) → List Record → Type 0
IsDrawn start counter of records =
    (h : ℕ → ℕ) → weigh_below h start + weigh (λ v. weigh h (of v)) records ≡ weigh_below h counter

-- the numbers differ, and are those from `start` on with no gap
pub record AreConsecutive (start : ℕ) (numbers : List ℕ) : Type 0 where
  pub differ : AllPairs (λ m n. m ≢ n) numbers
  pub exactly : (n : ℕ) → Contains numbers n ↔ ((start ≤ n) × (n < start + length numbers))

-- the numbers differ, and are those from `start` on and below the counter
pub record AreDrawnOnce (start counter : ℕ) (numbers : List ℕ) : Type 0 where
  pub consecutive : AreConsecutive start numbers
  pub reach : start + length numbers ≡ counter

-- all that the records have drawn, or won, record after record
abbrev pub all_of : {A : Type 0} → (Record → List A) → List Record → List A
all_of of records = flat_map of records

-- each record has the property
abbrev pub EachRecord : (Record → Type 0) → List Record → Type 0
EachRecord P records = (id : ℕ) (v : Record) → get_elem? records id ≡ some v → P v

-- The pairs are those of the cells that have a place, and no two of them are of one cell.
pub record AreWinsOf (words : List ℕ) (won : List (ℕ × Place)) : Type 0 where
  pub forward : AreForward words
  pub differ : AllPairs (λ q s. q.0 ≢ s.0) won
  pub exactly : (q : ℕ × Place) → Contains won q ↔ (IsPlace q.1 × IsPair words q)

-- The cells that have a place are those that were won, each by one record and once, with the place that was won. It is said by
-- weights, as `IsDrawn` is. The law `weights_say_each_once` proves that it means `AreWinsOf` of all that was won.
pub record AreWonOnce (r : Race) : Type 0 where
  pub forward : AreForward r.words
  pub won : (h : ℕ × Place → ℕ) → weigh (λ v. weigh h v.won) r.records ≡ weigh_words h 0 r.words

-- won places differ, and each lies in a block that the same record has claimed
pub record AreOwnPlaces (r : Race) : Type 0 where
  pub apart : (p : Place) → weigh (λ v. weigh (place_at p) v.won) r.records ≤ 1
  pub owned : EachRecord (λ v. All (λ q. owns v q.1 ≡ true) v.won) r.records

-- the record wastes no more than its share: chunk numbers past the last, and blocks of either space with room
pub record IsWithinShare (k : Counts) (v : Record) : Type 0 where
  pub past : past k v ≤ v.share
  pub aged_room : with_room AGED v.won v.aged_blocks ≤ v.share
  pub old_room : with_room OLD v.won v.old_blocks ≤ v.share

-- ---- the rule

pub record Rule (k : Counts) (r : Race) : Type 0 where
  -- there is a word for each cell
  pub size : length r.words ≡ k.cells
  -- each chunk of roots is claimed once
  pub chunks_once : IsDrawn 0 r.next_chunk (λ v. v.chunks) r.records
  -- each block number is claimed once: in Aged from 0 on, in Old from the kept number on
  pub blocks_once : IsDrawn 0 r.next_aged (λ v. v.aged_blocks) r.records × IsDrawn k.kept r.next_old (λ v. v.old_blocks) r.records
  -- each cell is won once, by the one record that has the pair
  pub wins_once : AreWonOnce r
  -- won places differ, and lie in the winner's own blocks
  pub places_own : AreOwnPlaces r
  -- what was seen is in the table
  pub seen_stands : EachRecord (λ v. All (IsPair r.words) v.seen) r.records
  -- no record wastes more than its share, and the shares add up to the number of helpers
  pub within_share : EachRecord (IsWithinShare k) r.records × (weigh (λ v. v.share) r.records ≡ k.helpers)
  -- a record with no share is spent: it is empty, and represents no helper
  pub spent : EachRecord (λ v. v.share ≡ 0 → v ≡ empty 0) r.records

-- the record has won or seen the cell with this place
abbrev pub HasMet : Record → ℕ → Place → Type 0
HasMet v cell p = IsTrue (has_pair cell p v.won) ⊎ IsTrue (has_pair cell p v.seen)

-- ---- what each event makes of a record

abbrev pub with_chunk : Record → ℕ → Record
with_chunk v c = record v { chunks = v.chunks ++ c ∷ [] }

abbrev pub with_seen : Record → ℕ × Place → Record
with_seen v q = record v { seen = v.seen ++ q ∷ [] }

abbrev pub with_won : Record → ℕ × Place → Record
with_won v q = record v { won = v.won ++ q ∷ [] }

abbrev pub with_claimed_block : Bool → Record → ℕ → Record
with_claimed_block aged v b =
    if aged then record v { aged_blocks = v.aged_blocks ++ b ∷ [] }
    else record v { old_blocks = v.old_blocks ++ b ∷ [] }

-- two records become one, list after list
abbrev pub both : Record → Record → Record
both v w = record {
  chunks = v.chunks ++ w.chunks;
  won = v.won ++ w.won;
  seen = v.seen ++ w.seen;
  aged_blocks = v.aged_blocks ++ w.aged_blocks;
  old_blocks = v.old_blocks ++ w.old_blocks;
  share = v.share + w.share;
}

abbrev pub less_one : Record → Record
less_one v = record v { share = v.share - 1 }
