-- Sets of numbers as bits, and their marks.
use Rattle.std.proofs.Common.{◌≡◌, ◌≢◌, ◌↔◌, ℕ, zero, suc, ◌+◌, ◌*◌, ◌/◌, ◌%◌, ◌^◌, ◌<◌, ◌≤◌, ◌⊎◌, ◌==◌, inl, inr, Bool, true, List, [], ◌∷◌, ◌++◌, length, length-append, get_or, set, min, refl, sym, ap, subst, arith, ◌∙◌, ⊎_elim}
use Rattle.std.specs.Int.{bit_at, trailing_zeros, w64}
use Rattle.std.specs.List.{All, AllPairs, Contains, filter, range_with_len}
use Rattle.std.proofs.lemmas.Bool.{cases_eq, cases_lt, cond-true, cond_both, eq-eqb, eqb-true}
use Rattle.std.proofs.lemmas.Grind.{get_or_default_zero}
use Rattle.std.proofs.lemmas.List.{get_or-set_other, get_or-set_same, get_or_past, length-set}
use Rattle.std.proofs.lemmas.List.Elements.{All-contains, Contains-append_right, Contains-get_or, filter_passes}
use Rattle.std.proofs.lemmas.List.FromFn.{get_or-range_with_len, length-range_with_len}
use Rattle.std.proofs.lemmas.List.Kept.{AllPairs-filter}
use Rattle.std.proofs.lemmas.Nat.Bits.{bit_at-lt, bit_at-trailing_zeros, bit_at-zero}
use Rattle.tg_index.specs.Bits.{AreMarks, IsFirstFrom, IsFirstOf, SetsBit, bit_in, numbers_set}

-- ---- lists

Contains-filter : {X : Type 0} (p : X → Bool) (xs : List X) (z : X) → Contains xs z → p z ≡ true → Contains (filter p xs) z
Contains-filter p [] z (k, inside, is) passes = absurd (omega (arith, inside))
Contains-filter p (x ∷ xs) z (zero, inside, is) passes = subst (λ l. Contains l z) (sym (cond-true (p x) (x ∷ filter p xs) (filter p xs) (ap p is ∙ passes))) (0, omega arith, is)
Contains-filter p (x ∷ xs) z (suc k, inside, is) passes =
    let rest = Contains-filter p xs z (k, omega (arith, inside), is) passes in
    cond_both (p x) (x ∷ filter p xs) (filter p xs) (λ l. Contains l z) (λ _. Contains-append_right (x ∷ []) (filter p xs) z rest) (λ _. rest)

-- ---- one bit

-- a word with a bit isn't 0
some_bit : (word i : ℕ) → bit_at word i ≡ 1 → word ≢ 0
some_bit word i one none = let z : 1 ≡ 0 = sym one ∙ ap (λ x. bit_at x i) none ∙ bit_at-zero i in omega (arith, z)

-- a word that is 0 has no bit
pub no_bit : (words : List ℕ) (n : ℕ) → get_or words (n / 64) 0 ≡ 0 → bit_in words n ≡ 0
no_bit words n none = ap (λ x. bit_at x (n % 64)) none ∙ bit_at-zero (n % 64)

-- after the last word all are 0
pub word_inside : (words : List ℕ) (w : ℕ) → get_or words w 0 ≢ 0 → w < length words
word_inside words w some = ⊎_elim (λ low. low) (λ high. absurd (some (get_or_past words w 0 high))) (cases_lt w (length words))

-- after the last word no bit is set
pub bit_inside : (words : List ℕ) (n : ℕ) → bit_in words n ≡ 1 → n < 64 * length words
bit_inside words n here = ⊎_elim (λ low. omega arith) (λ high. absurd (some_bit (get_or words (n / 64) 0) (n % 64) here (get_or_past words (n / 64) 0 high))) (cases_lt (n / 64) (length words))

-- a bit that isn't 1 is 0
pub bit_clear : (words : List ℕ) (n : ℕ) → (bit_in words n ≡ 1 → ⊥) → bit_in words n ≡ 0
bit_clear words n not_one =
    let low = bit_at-lt (get_or words (n / 64) 0) (n % 64) in
    ⊎_elim (λ is. absurd (not_one is)) (λ other. omega arith) (cases_eq (bit_in words n) 1)

-- one more word that is 0 changes no word, and no bit
word_same : (words : List ℕ) (w : ℕ) → get_or (words ++ 0 ∷ []) w 0 ≡ get_or words w 0
word_same [] zero = refl
word_same [] (suc w) = refl
word_same (x ∷ xs) zero = refl
word_same (x ∷ xs) (suc w) = word_same xs w

pub bit_same : (words : List ℕ) (n : ℕ) → bit_in (words ++ 0 ∷ []) n ≡ bit_in words n
bit_same words n = ap (λ x. bit_at x (n % 64)) (word_same words (n / 64))

-- what is read in a word
pub word_read : (words : List ℕ) (w x : ℕ) → w < length words → x ≡ get_or words w x → get_or words w 0 ≡ x
word_read words w x inside is = sym (is ∙ get_or_default_zero words w x inside)

-- one word is written, and differs in one bit
pub sets_bit : (words : List ℕ) (n bit old word : ℕ) → n < 64 * length words → old ≡ get_or words (n / 64) old → bit_at word (n % 64) ≡ bit → ((i : ℕ) → i < 64 → i ≢ n % 64 → bit_at word i ≡ bit_at old i) →
    SetsBit words (set words (n / 64) word) n bit
sets_bit words n bit old word inside is here others = record {
  here = ap (λ x. bit_at x (n % 64)) same ∙ here;
  others = λ m other.
      ⊎_elim
      (λ (e : m / 64 ≡ n / 64).
      let apart : m % 64 ≢ n % 64 = λ z. other (omega arith) in
      ap (λ w. bit_at (get_or (set words (n / 64) word) w 0) (m % 64)) e ∙ ap (λ x. bit_at x (m % 64)) same ∙ others (m % 64) (omega arith) apart
      ∙ ap (λ x. bit_at x (m % 64)) (sym was) ∙ ap (λ w. bit_at (get_or words w 0) (m % 64)) (sym e))
      (λ apart. ap (λ x. bit_at x (m % 64)) (get_or-set_other words (n / 64) (m / 64) word 0 apart))
      (cases_eq (m / 64) (n / 64));
  words = λ w apart. get_or-set_other words (n / 64) w word 0 apart;
  len = length-set words (n / 64) word;
}
  where
    was : get_or words (n / 64) 0 ≡ old
    was = word_read words (n / 64) old (omega arith) is

    same : get_or (set words (n / 64) word) (n / 64) 0 ≡ word
    same = get_or-set_same words (n / 64) word 0 (omega arith)

-- the lowest bit of a word is the first number in it
pub first_from : (words : List ℕ) (w x : ℕ) → get_or words w 0 ≢ 0 → x ≡ get_or words w x → x < 2 ^ 64 → IsFirstFrom words w (w * 64 + trailing_zeros w64 x)
first_from words w x some is fits =
    let word : get_or words w 0 ≡ x = word_read words w x (word_inside words w some) is in
    let low = bit_at-trailing_zeros w64 x (omega (arith, some, word)) fits in
    let k = trailing_zeros w64 x in
    let short : k < 64 = low.0 in
    let block : (w * 64 + k) / 64 ≡ w = omega arith in
    let place : (w * 64 + k) % 64 ≡ k = omega arith in
    record {
      here = ap (λ v. bit_at (get_or words v 0) ((w * 64 + k) % 64)) block ∙ ap (λ i. bit_at (get_or words w 0) i) place ∙ ap (λ v. bit_at v k) word ∙ low.1;
      inside = block;
      before = λ m less from.
          let here : m / 64 ≡ w = omega arith in
          let under : m % 64 < k = omega arith in
          ap (λ v. bit_at (get_or words v 0) (m % 64)) here ∙ ap (λ v. bit_at v (m % 64)) word ∙ low.2 (m % 64) under;
    }

-- ---- the numbers of a set

pub number_set : (words : List ℕ) (n : ℕ) → Contains (numbers_set words) n → bit_in words n ≡ 1
number_set words n has =
    let test = λ (k : ℕ). bit_in words k == 1 in
    eqb-true (bit_in words n) 1 (All-contains (λ k. test k ≡ true) (numbers_set words) n (filter_passes test (range_with_len 0 (64 * length words))) has)

pub set_number : (words : List ℕ) (n : ℕ) → bit_in words n ≡ 1 → Contains (numbers_set words) n
set_number words n here =
    let inside = bit_inside words n here in
    let all = range_with_len 0 (64 * length words) in
    let long : length all ≡ 64 * length words = length-range_with_len 0 (64 * length words) in
    let at : get_or all n n ≡ n = omega (arith, get_or-range_with_len 0 (64 * length words) n n inside) in
    Contains-filter (λ k. bit_in words k == 1) all n (n, omega (arith, long, inside), at) (eq-eqb (bit_in words n) 1 here)

-- each number is once
pub numbers_once : (words : List ℕ) → AllPairs (λ a b. a ≢ b) (numbers_set words)
numbers_once words = AllPairs-filter (λ a b. a ≢ b) (λ k. bit_in words k == 1) (range_with_len 0 (64 * length words)) apart
  where
    apart : AllPairs (λ a b. a ≢ b) (range_with_len 0 (64 * length words))
    apart i j d low inside =
        let long : length (range_with_len 0 (64 * length words)) ≡ 64 * length words = length-range_with_len 0 (64 * length words) in
        let one = get_or-range_with_len 0 (64 * length words) i d (omega arith) in
        let two = get_or-range_with_len 0 (64 * length words) j d (omega arith) in
        λ e. omega (arith, one, two, e, low)

-- the first of a set is the least of its numbers
pub least_number : (words : List ℕ) (n : ℕ) → IsFirstOf words n → All (λ m. n ≤ m) (numbers_set words)
least_number words n first k d inside =
    let m = get_or (numbers_set words) k d in
    let here = number_set words m (Contains-get_or (numbers_set words) k d inside) in
    ⊎_elim (λ (low : m < n). let z : 1 ≡ 0 = sym here ∙ first.before m low in absurd (omega (arith, z))) (λ le. le) (cases_lt m n)

-- a set with no bit has no number
pub none_number : (words : List ℕ) → ((n : ℕ) → bit_in words n ≡ 0) → (m : ℕ) → ¬ Contains (numbers_set words) m
none_number words none m has = let z : 1 ≡ 0 = sym (number_set words m has) ∙ none m in absurd (omega (arith, z))

-- one more number
pub numbers_more : (words later : List ℕ) (n : ℕ) → SetsBit words later n 1 → (m : ℕ) → Contains (numbers_set later) m ↔ ((m ≡ n) ⊎ Contains (numbers_set words) m)
numbers_more words later n sets m = (
  λ has. let here = number_set later m has in ⊎_elim (λ same. inl same) (λ other. inr (set_number words m (sym (sets.others m other) ∙ here))) (cases_eq m n),
  λ is. set_number later m (⊎_elim
      (λ same. ap (λ k. bit_in later k) same ∙ sets.here)
      (λ has. ⊎_elim (λ same. ap (λ k. bit_in later k) same ∙ sets.here) (λ other. sets.others m other ∙ number_set words m has) (cases_eq m n))
      is),
)

-- one number less
pub numbers_less : (words later : List ℕ) (n : ℕ) → SetsBit words later n 0 → (m : ℕ) → Contains (numbers_set later) m ↔ (Contains (numbers_set words) m × (m ≢ n))
numbers_less words later n sets m = (
  λ has.
      let here = number_set later m has in
      let other : m ≢ n = λ same. let z : 1 ≡ 0 = sym here ∙ ap (λ k. bit_in later k) same ∙ sets.here in omega (arith, z) in
      (set_number words m (sym (sets.others m other) ∙ here), other),
  λ is. set_number later m (sets.others m is.1 ∙ number_set words m is.0),
)

-- the same bits
pub numbers_same : (words later : List ℕ) → ((n : ℕ) → bit_in later n ≡ bit_in words n) → (m : ℕ) → Contains (numbers_set later) m ↔ Contains (numbers_set words) m
numbers_same words later same m = (λ has. set_number words m (sym (same m) ∙ number_set later m has), λ has. set_number later m (same m ∙ number_set words m has))

-- ---- the marks

module _ (words marks : List ℕ) (least : ℕ) (are : AreMarks words marks least) where
  -- a number has a mark, and no word of marks before it is 0
  pub marked : (n : ℕ) → bit_in words n ≡ 1 → bit_in marks (n / 64) ≡ 1
  marked n here = (are.exact (n / 64)).1 (some_bit (get_or words (n / 64) 0) (n % 64) here)

  marked_behind : (n : ℕ) → bit_in words n ≡ 1 → least ≤ n / 64 / 64
  marked_behind n here =
      ⊎_elim
      (λ low. absurd (some_bit (get_or marks (n / 64 / 64) 0) (n / 64 % 64) (marked n here) (are.below (n / 64 / 64) low)))
      (λ le. le)
      (cases_lt (n / 64 / 64) least)

  -- the first number by the first mark
  pub first_marked : (w n : ℕ) → IsFirstFrom marks least w → IsFirstFrom words w n → IsFirstOf words n
  first_marked w n up down = record {
    here = down.here;
    before = λ m less. bit_clear words m (λ here.
        ⊎_elim
        (λ (low : m / 64 < w).
        let behind = marked_behind m here in
        let z : 1 ≡ 0 = sym (marked m here) ∙ up.before (m / 64) low behind in
        omega (arith, z))
        (λ from. let z : 1 ≡ 0 = sym here ∙ down.before m less from in omega (arith, z))
        (cases_lt (m / 64) w));
  }

  -- with no mark there is no number
  pub none_marked : least ≡ length marks → (n : ℕ) → bit_in words n ≡ 0
  none_marked end n = bit_clear words n (λ here.
      let behind = marked_behind n here in
      let inside = bit_inside marks (n / 64) (marked n here) in
      omega arith)

  -- the marks are right again where they are at the word that changed
  exact_but : (later over : List ℕ) (n : ℕ) → ((w : ℕ) → w ≢ n / 64 → get_or later w 0 ≡ get_or words w 0) → ((w : ℕ) → w ≢ n / 64 → bit_in over w ≡ bit_in marks w) → (bit_in over (n / 64) ≡ 1) ↔ (get_or later (n / 64) 0 ≢ 0) →
      (w : ℕ) → (bit_in over w ≡ 1) ↔ (get_or later w 0 ≢ 0)
  exact_but later over n sets puts here w =
      ⊎_elim
      (λ same. subst (λ v. (bit_in over v ≡ 1) ↔ (get_or later v 0 ≢ 0)) (sym same) here)
      (λ other. (
        λ is none. (are.exact w).0 (sym (puts w other) ∙ is) (sym (sets w other) ∙ none),
        λ some. puts w other ∙ (are.exact w).1 (λ none. some (sets w other ∙ none)),
      ))
      (cases_eq w (n / 64))

  -- one more number
  pub marks_more : (wider over : List ℕ) (n : ℕ) → SetsBit words wider n 1 → SetsBit marks over (n / 64) 1 → AreMarks wider over (min least (n / 64 / 64))
  marks_more wider over n sets puts = record {
    exact = exact_but wider over n sets.words puts.others (λ _. some_bit (get_or wider (n / 64) 0) (n % 64) sets.here, λ _. puts.here);
    below = λ m low. puts.words m (λ e. omega arith) ∙ are.below m (omega arith);
    lowest = λ _. by_order (cases_lt least (n / 64 / 64));
    within = let le = are.within in let len = puts.len in omega arith;
    each = let le = are.each in let a = sets.len in let b = puts.len in omega arith;
    short = let le = are.short in let a = sets.len in let b = puts.len in omega arith;
    few = let le = are.few in let a = sets.len in omega arith;
  }
    where
      here : get_or over (n / 64 / 64) 0 ≢ 0
      here = some_bit (get_or over (n / 64 / 64) 0) (n / 64 % 64) puts.here

      by_order : (least < n / 64 / 64) ⊎ (n / 64 / 64 ≤ least) → get_or over (min least (n / 64 / 64)) 0 ≢ 0
      by_order (inl low) none =
          let at : min least (n / 64 / 64) ≡ least = omega arith in
          let inside = bit_inside over (n / 64) puts.here in
          let len = puts.len in
          are.lowest (omega arith) (sym (puts.words least (λ e. omega arith)) ∙ ap (λ v. get_or over v 0) (sym at) ∙ none)
      by_order (inr le) none = let at : min least (n / 64 / 64) ≡ n / 64 / 64 = omega arith in here (ap (λ v. get_or over v 0) (sym at) ∙ none)

  -- one number less, and its word isn't 0
  pub marks_same : (later : List ℕ) (n : ℕ) → bit_in words n ≡ 1 → SetsBit words later n 0 → get_or later (n / 64) 0 ≢ 0 → AreMarks later marks least
  marks_same later n held sets some = record {
    exact = exact_but later marks n sets.words (λ w other. refl) (λ _. some, λ _. marked n held);
    below = are.below;
    lowest = are.lowest;
    within = are.within;
    each = let le = are.each in let a = sets.len in omega arith;
    short = let le = are.short in let a = sets.len in omega arith;
    few = let le = are.few in let a = sets.len in omega arith;
  }

  -- one number less, and its word is 0
  pub marks_less : (later over : List ℕ) (n : ℕ) → bit_in words n ≡ 1 → SetsBit words later n 0 → get_or later (n / 64) 0 ≡ 0 → SetsBit marks over (n / 64) 0 →
      (first : ℕ) → first ≤ length over → ((w : ℕ) → least ≤ w → w < first → get_or over w 0 ≡ 0) → (first < length over → get_or over first 0 ≢ 0) → AreMarks later over first
  marks_less later over n held sets gone puts first within before found = record {
    exact = exact_but later over n sets.words puts.others (λ is. absurd (omega (arith, is, puts.here)), λ some. absurd (some gone));
    below = λ m low.
        ⊎_elim
        (λ (less : m < least). let behind = marked_behind n held in puts.words m (λ e. omega arith) ∙ are.below m less)
        (λ from. before m from low)
        (cases_lt m least);
    lowest = found;
    within = within;
    each = let le = are.each in let a = sets.len in let b = puts.len in omega arith;
    short = let le = are.short in let a = sets.len in let b = puts.len in omega arith;
    few = let le = are.few in let a = sets.len in omega arith;
  }

  -- one more word
  pub marks_wider : length words < 64 * length marks → length words < 2 ^ 26 → AreMarks (words ++ 0 ∷ []) marks least
  marks_wider each few = record {
    exact = λ w. (
      λ is. λ none. (are.exact w).0 is (sym (word_same words w) ∙ none),
      λ some. (are.exact w).1 (λ none. some (word_same words w ∙ none)),
    );
    below = are.below;
    lowest = are.lowest;
    within = are.within;
    each = let long = length-append words (0 ∷ []) in omega arith;
    short = let le = are.short in let long = length-append words (0 ∷ []) in omega arith;
    few = let long = length-append words (0 ∷ []) in omega arith;
  }

  -- one more word of marks marks the same words
  longer_exact : (w : ℕ) → (bit_in (marks ++ 0 ∷ []) w ≡ 1) ↔ (get_or words w 0 ≢ 0)
  longer_exact w = (λ is. (are.exact w).0 (sym (bit_same marks w) ∙ is), λ some. bit_same marks w ∙ (are.exact w).1 some)

  -- one more word of marks, after the first that isn't 0
  pub marks_longer : length words / 64 ≡ length marks → least < length marks → AreMarks words (marks ++ 0 ∷ []) least
  marks_longer full inside = record {
    exact = longer_exact;
    below = λ m low. word_same marks m ∙ are.below m low;
    lowest = λ _ none. are.lowest inside (sym (word_same marks least) ∙ none);
    within = let long = length-append marks (0 ∷ []) in omega arith;
    each = let le = are.each in let long = length-append marks (0 ∷ []) in omega arith;
    short = let long = length-append marks (0 ∷ []) in omega arith;
    few = are.few;
  }

  -- one more word of marks where all are 0
  pub marks_all_longer : length words / 64 ≡ length marks → least ≡ length marks → AreMarks words (marks ++ 0 ∷ []) (least + 1)
  marks_all_longer full end = record {
    exact = longer_exact;
    below = λ m low. word_same marks m ∙ ⊎_elim (λ (less : m < least). are.below m less) (λ from. get_or_past marks m 0 (omega arith)) (cases_lt m least);
    lowest = λ inside none. let long = length-append marks (0 ∷ []) in omega arith;
    within = let long = length-append marks (0 ∷ []) in omega arith;
    each = let le = are.each in let long = length-append marks (0 ∷ []) in omega arith;
    short = let long = length-append marks (0 ∷ []) in omega arith;
    few = are.few;
  }
