-- Sets of numbers as the bits of words.
use Rattle.std.specs.Prelude.{◌≡◌, ◌≢◌, ◌↔◌, ◌==◌, ℕ, ◌+◌, ◌*◌, ◌/◌, ◌%◌, ◌^◌, ◌<◌, ◌≤◌, List, length, slice_index}
use Rattle.std.specs.Int.{bit_at}
use Rattle.std.specs.List.{filter, range_with_len}

-- The bit of a number, which is in the set where the bit is 1. After the last word all are 0.
abbrev pub bit_in : List ℕ → ℕ → ℕ
bit_in words n = bit_at (slice_index words (n / 64)) (n % 64)

-- the numbers of the set, the least first
abbrev pub numbers_set : List ℕ → List ℕ
numbers_set words = filter (λ n. bit_in words n == 1) (range_with_len 0 (64 * length words))

-- the words are the same but for the bit of one number, which is this one then
pub record SetsBit (old new : List ℕ) (n bit : ℕ) : Type 0 where
  pub here : bit_in new n ≡ bit
  pub others : (m : ℕ) → m ≢ n → bit_in new m ≡ bit_in old m
  pub words : (w : ℕ) → w ≢ n / 64 → slice_index new w ≡ slice_index old w
  pub len : length new ≡ length old

-- the number is in the set, and none of the word or a later one is before it
pub record IsFirstFrom (words : List ℕ) (word n : ℕ) : Type 0 where
  pub here : bit_in words n ≡ 1
  pub inside : n / 64 ≡ word
  pub before : (m : ℕ) → m < n → word ≤ m / 64 → bit_in words m ≡ 0

-- the number is the first of the set
pub record IsFirstOf (words : List ℕ) (n : ℕ) : Type 0 where
  pub here : bit_in words n ≡ 1
  pub before : (m : ℕ) → m < n → bit_in words m ≡ 0

-- the number is the first of the set from this one on
pub record IsNextFrom (words : List ℕ) (from n : ℕ) : Type 0 where
  pub here : bit_in words n ≡ 1
  pub behind : from ≤ n
  pub before : (m : ℕ) → from ≤ m → m < n → bit_in words m ≡ 0

-- A mark is at each word that isn't 0, and `least` is the first word of marks that isn't 0, or the number of these words.
-- There is a mark for each word, and no word of marks too many. There are at most 2 ^ 32 bits.
pub record AreMarks (words marks : List ℕ) (least : ℕ) : Type 0 where
  pub exact : (w : ℕ) → (bit_in marks w ≡ 1) ↔ (slice_index words w ≢ 0)
  pub below : (m : ℕ) → m < least → slice_index marks m ≡ 0
  pub lowest : least < length marks → slice_index marks least ≢ 0
  pub within : least ≤ length marks
  pub each : length words ≤ 64 * length marks
  pub short : length marks ≤ length words / 64 + 1
  pub few : length words ≤ 2 ^ 26
