-- Words as sets of islands.
use Rattle.std.proofs.Common.{◌≡◌, ◌⊎◌, inl, inr, ⊎_elim, ℕ, ◌*◌, ◌^◌, ◌<◌, ◌==◌, true, false, not, bit_and, bit_or, sym, ap, ◌∙◌, subst, arith, eq-eqb}
use Rattle.std.specs.Int.{IsPowerOfTwo, bit_at}
use Rattle.std.specs.Int.Bits.{and_zero_l, and_zero_r}
use Rattle.std.proofs.lemmas.Bool.{eqb-true, eqb-false, ne_eqb, cases_Bool, false≢true}
use Rattle.std.proofs.lemmas.Nat.{and_assoc, and_comm, or_comm, and_or_self, pow_pos}
use Rattle.std.proofs.lemmas.Nat.Bits.{and_pow, bit_at-lt}
use Rattle.std.proofs.Math.Nat.{zero-mul, one-mul}
use Rattle.tg_could.specs.View.{is_at_most, meets, IsBridged}

is_zero : (n : ℕ) → not (n == 0) ≡ false → n ≡ 0
is_zero n h = ⊎_elim (λ is. eqb-true n 0 is) (λ is_not. absurd (false≢true (sym h ∙ ap not is_not))) (cases_Bool (n == 0))

not_zero : (n : ℕ) → n ≡ 0 → not (n == 0) ≡ false
not_zero n is = ap not (eq-eqb n 0 is)

-- a & k is a & (b & k), where a is within b
part : (a b k : ℕ) → is_at_most a b ≡ true → bit_and a k ≡ bit_and a (bit_and b k)
part a b k h = ap (λ n. bit_and n k) (sym (eqb-true (bit_and a b) a h)) ∙ and_assoc k a b

pub within-trans : (a b k : ℕ) → is_at_most a b ≡ true → is_at_most b k ≡ true → is_at_most a k ≡ true
within-trans a b k h i =
    eq-eqb (bit_and a k) a
    (part a b k h ∙ (ap (λ n. bit_and a n) (eqb-true (bit_and b k) b i) ∙ eqb-true (bit_and a b) a h))

pub meets-down : (a b k : ℕ) → is_at_most a b ≡ true → meets b k ≡ false → meets a k ≡ false
meets-down a b k h none =
    not_zero (bit_and a k) (part a b k h ∙ (ap (λ n. bit_and a n) (is_zero (bit_and b k) none) ∙ and_zero_r a))

pub meets-up : (a b k : ℕ) → is_at_most a b ≡ true → meets a k ≡ true → meets b k ≡ true
meets-up a b k h is =
    ⊎_elim (λ is_so. is_so) (λ is_not. absurd (false≢true (sym (meets-down a b k h is_not) ∙ is))) (cases_Bool (meets b k))

pub within-more : (a k m : ℕ) → is_at_most a k ≡ true → is_at_most a (bit_or k m) ≡ true
within-more a k m h =
    within-trans a k (bit_or k m) h
    (eq-eqb (bit_and k (bit_or k m)) k (and_comm k (bit_or k m) ∙ (ap (λ n. bit_and n k) (or_comm k m) ∙ and_or_self k m)))

pub within-new : (a k : ℕ) → is_at_most a (bit_or k a) ≡ true
within-new a k = eq-eqb (bit_and a (bit_or k a)) a (and_comm a (bit_or k a) ∙ and_or_self a k)

none_or_one : (b : ℕ) → b < 2 → (b ≡ 0) ⊎ (b ≡ 1)
none_or_one b h = ⊎_elim (λ is. inl (eqb-true b 0 is)) (λ is_not. inr (omega (arith, h, eqb-false b 0 is_not))) (cases_Bool (b == 0))

pow_not_zero : (n : ℕ) → 2 ^ n ≡ 0 → ⊥
pow_not_zero n e = omega (arith, pow_pos n, e)

-- a word of one bit is apart from another, or within it
of_single : (w k : ℕ) → IsPowerOfTwo w → (bit_and w k ≡ 0) ⊎ (bit_and w k ≡ w)
of_single w k power =
    let n = power.0 in
    let value : bit_and w k ≡ bit_at k n * 2 ^ n = ap (λ v. bit_and v k) power.1 ∙ (and_comm (2 ^ n) k ∙ and_pow k n) in
    ⊎_elim (λ none. inl (value ∙ (ap (λ b. b * 2 ^ n) none ∙ zero-mul (2 ^ n))))
    (λ one. inr (value ∙ (ap (λ b. b * 2 ^ n) one ∙ (one-mul (2 ^ n) ∙ sym power.1))))
    (none_or_one (bit_at k n) (bit_at-lt k n))

single-within : (w k : ℕ) → IsPowerOfTwo w → meets w k ≡ true → is_at_most w k ≡ true
single-within w k power is =
    ⊎_elim (λ none. absurd (false≢true (sym (not_zero (bit_and w k) none) ∙ is)))
    (λ all. eq-eqb (bit_and w k) w all) (of_single w k power)

-- one bit is in another word or apart from it
pub single-alike : (w k : ℕ) → IsPowerOfTwo w → meets w k ≡ is_at_most w k
single-alike w k power =
    ⊎_elim (λ is_so. is_so ∙ sym (single-within w k power is_so))
    (λ is_not. is_not ∙ sym (ne_eqb (bit_and w k) w
    (λ same. pow_not_zero power.0 (sym power.1 ∙ (sym same ∙ is_zero (bit_and w k) is_not)))))
    (cases_Bool (meets w k))

-- words that are bridged: whose bits meet a third, the other is within it
pub bridged-on : (a b k : ℕ) → IsBridged a b → meets a k ≡ true → is_at_most b k ≡ true
bridged-on a b k bridged is =
    ⊎_elim (λ none. absurd (false≢true (sym (not_zero (bit_and a k) (ap (λ n. bit_and n k) none ∙ and_zero_l k)) ∙ is)))
    (λ more. ⊎_elim (λ none. eq-eqb (bit_and b k) b (ap (λ n. bit_and n k) none ∙ (and_zero_l k ∙ sym none)))
    (λ same. single-within b k same.1 (subst (λ (n : ℕ). meets n k ≡ true) same.0 is)) more)
    bridged

pub bridged-back : (a b k : ℕ) → IsBridged a b → meets b k ≡ true → is_at_most a k ≡ true
bridged-back a b k bridged is =
    ⊎_elim (λ none. eq-eqb (bit_and a k) a (ap (λ n. bit_and n k) none ∙ (and_zero_l k ∙ sym none)))
    (λ more. ⊎_elim (λ none. absurd (false≢true (sym (not_zero (bit_and b k) (ap (λ n. bit_and n k) none ∙ and_zero_l k)) ∙ is)))
    (λ same. subst (λ (n : ℕ). is_at_most n k ≡ true) (sym same.0) (single-within b k same.1 is)) more)
    bridged
