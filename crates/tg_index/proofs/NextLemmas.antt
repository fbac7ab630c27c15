-- The next number of a set.
use Rattle.std.proofs.Common.{◌≡◌, ◌≢◌, ℕ, ◌+◌, ◌-◌, ◌*◌, ◌/◌, ◌%◌, ◌^◌, ◌<◌, ◌≤◌, List, [], length, get_or, refl, sym, ap, arith, ◌∙◌, ⊎_elim}
use Rattle.std.specs.Int.{bit_at, trailing_zeros, w64}
use Rattle.std.proofs.lemmas.Bool.{cases_eq, cases_lt}
use Rattle.std.proofs.lemmas.List.{get_or_past}
use Rattle.std.proofs.lemmas.Nat.{pow-add, pow_pos}
use Rattle.std.proofs.lemmas.Nat.Bits.{bit_at-trailing_zeros, bit_at-zero, bit_at_above}
use Rattle.std.proofs.Math.Nat.{div-lt_iff_lt-mul, div-le_self}
use Rattle.std.proofs.Math.Nat.{div-div-eq-div-mul}
use Rattle.tg_index.specs.Bits.{AreMarks, IsFirstFrom, IsNextFrom, bit_in}
use Rattle.tg_index.proofs.BitLemmas.{no_bit, word_read}

-- a bit of a word that is shifted
bit_at_shifted : (x s k : ℕ) → bit_at (x / 2 ^ s) k ≡ bit_at x (s + k)
bit_at_shifted x s k = ap (λ y. y % 2) (div-div-eq-div-mul x (2 ^ s) (2 ^ k) ∙ ap (λ y. x / y) (sym (pow-add 2 s k)))

-- a word that is 0 once it is shifted has no bit from there on
shifted_none : (x s i : ℕ) → x / 2 ^ s ≡ 0 → s ≤ i → bit_at x i ≡ 0
shifted_none x s i none above =
    let one : x / 2 ^ s < 1 = omega (arith, none) in
    let low : x < 1 * 2 ^ s = (div-lt_iff_lt-mul {k = 2 ^ s} {x = x} {y = 1} (pow_pos s)).0 one in
    bit_at_above x s i (omega (arith, low)) above

module _ (words : List ℕ) (from x : ℕ) (inside : from / 64 < length words) (is : x ≡ get_or words (from / 64) x) where
  word : get_or words (from / 64) 0 ≡ x
  word = word_read words (from / 64) x inside is

  -- a number of the same word
  here : (m : ℕ) → m / 64 ≡ from / 64 → bit_in words m ≡ bit_at x (m % 64)
  here m same = ap (λ w. bit_at (get_or words w 0) (m % 64)) same ∙ ap (λ y. bit_at y (m % 64)) word

  -- the lowest bit of what is left of the word
  pub next_here : x < 2 ^ 64 → x / 2 ^ (from % 64) ≢ 0 → IsNextFrom words from (from + trailing_zeros w64 (x / 2 ^ (from % 64)))
  next_here fits some = record {
    here = here (from + k) block ∙ ap (λ i. bit_at x i) place ∙ sym (bit_at_shifted x s k) ∙ low.1;
    behind = omega arith;
    before = λ m above below.
        let same : m / 64 ≡ from / 64 = omega (arith, short) in
        let at : m % 64 ≡ s + (m - from) = omega (arith, short) in
        here m same ∙ ap (λ i. bit_at x i) at ∙ sym (bit_at_shifted x s (m - from)) ∙ low.2 (m - from) (omega arith);
  }
    where
      s : ℕ
      s = from % 64

      y : ℕ
      y = x / 2 ^ s

      k : ℕ
      k = trailing_zeros w64 y

      low : (k < 64) × (bit_at y k ≡ 1) × ((i : ℕ) → i < k → bit_at y i ≡ 0)
      low = bit_at-trailing_zeros w64 y (omega (arith, some)) (let le = div-le_self x (2 ^ s) in omega (arith, le, fits))

      short : s + k < 64
      short =
          ⊎_elim
          (λ below. below)
          (λ (above : 64 ≤ s + k). let none = bit_at_above x 64 (s + k) fits above in let one = sym (bit_at_shifted x s k) ∙ low.1 in absurd (omega (arith, none, one)))
          (cases_lt (s + k) 64)

      block : (from + k) / 64 ≡ from / 64
      block = let low_sum = short in omega arith

      place : (from + k) % 64 ≡ s + k
      place = let low_sum = short in omega arith

  module _ (none : x / 2 ^ (from % 64) ≡ 0) (later : ℕ) (before : (w : ℕ) → from / 64 + 1 ≤ w → w < later → get_or words w 0 ≡ 0) where
    -- nothing is left of the word, and those up to a later one are 0
    none_before : (m : ℕ) → from ≤ m → m / 64 < later → bit_in words m ≡ 0
    none_before m above low =
        ⊎_elim
        (λ (same : m / 64 ≡ from / 64). here m same ∙ shifted_none x (from % 64) (m % 64) none (omega arith))
        (λ other. no_bit words m (before (m / 64) (omega arith) low))
        (cases_eq (m / 64) (from / 64))

    pub next_none : later ≡ length words → (m : ℕ) → from ≤ m → bit_in words m ≡ 0
    next_none end m above =
        ⊎_elim
        (λ (low : m / 64 < later). none_before m above low)
        (λ past. no_bit words m (get_or_past words (m / 64) 0 (omega (arith, end))))
        (cases_lt (m / 64) later)

    pub next_later : from / 64 + 1 ≤ later → (n : ℕ) → IsFirstFrom words later n → IsNextFrom words from n
    next_later behind n first = record {
      here = first.here;
      behind = let at = first.inside in omega arith;
      before = λ m above below.
          ⊎_elim
          (λ (low : m / 64 < later). none_before m above low)
          (λ from_later. first.before m below from_later)
          (cases_lt (m / 64) later);
    }

-- ---- marks

-- a word without a mark is 0
pub unmarked_zero : (words marks : List ℕ) (least : ℕ) → AreMarks words marks least → (w : ℕ) → bit_in marks w ≡ 0 → get_or words w 0 ≡ 0
unmarked_zero words marks least are w none = ⊎_elim (λ z. z) (λ some. let one = (are.exact w).1 some in absurd (omega (arith, one, none))) (cases_eq (get_or words w 0) 0)

-- no word, no mark
pub none_are_marks : AreMarks [] [] 0
none_are_marks = record {
  exact = λ w. (λ is. let none = bit_at-zero (w % 64) in absurd (omega (arith, is, none)), λ some. absurd (some refl));
  below = λ m low. absurd (omega arith);
  lowest = λ low. absurd (omega arith);
  within = omega arith;
  each = omega arith;
  short = omega arith;
  few = omega arith;
}
