-- What the types themselves name as their laws: a number below the bound is that of its set, and the test of equality
-- decides it. A type may name only what is in `specs/`, so these lemmas and what they rest on are not in `proofs/`.
use Rattle.std.proofs.Common.{◌≡◌, ◌<◌, ◌*◌, ◌^◌, ◌==◌, ℕ, zero, suc, Bool, true, false, ◌&&◌, refl, arith, ap, ◌∙◌, sym}
use Rattle.std.specs.Int.{bit_at}
use Rattle.std.proofs.lemmas.Nat.Bits.{bit_at-lt}
use Rattle.std.proofs.Math.Bool.{beq}
use Rattle.std.specs.Bool.{Decides}
use Rattle.std.specs.Cmp.{booleans_Decides}
use Rattle.tg_rights.specs.RightSet.{RightSet, has_bit, of_bits, bits_of, bit_if, bits_bound, is_same}

-- ---- the number of a set

-- what holds of 0 and of 1 holds of a bit
digit_cases : (P : ℕ → Type 0) → P 0 → P 1 → (x : ℕ) → x < 2 → P x
digit_cases P at_zero at_one zero h = at_zero
digit_cases P at_zero at_one (suc zero) h = at_one
digit_cases P at_zero at_one (suc (suc x)) h = absurd (omega arith)

pub bit_cases : (P : ℕ → Type 0) → P 0 → P 1 → (n i : ℕ) → P (bit_at n i)
bit_cases P at_zero at_one n i = digit_cases P at_zero at_one (bit_at n i) (bit_at-lt n i)

bit_if-value : (n i : ℕ) → bit_if (has_bit n i) (2 ^ i) ≡ bit_at n i * 2 ^ i
bit_if-value n i = bit_cases (λ x. bit_if (x == 1) (2 ^ i) ≡ x * 2 ^ i) (omega arith) (omega arith) n i

pub bits_of-of_bits : (n : ℕ) → n < bits_bound → bits_of (of_bits n) ≡ n
bits_of-of_bits n h =
    omega (arith, bit_if-value n 0, bit_if-value n 1, bit_if-value n 2, bit_if-value n 3, bit_if-value n 4, bit_if-value n 5, bit_if-value n 6, bit_if-value n 7)

-- ---- equality

and_first : (x y : Bool) → x && y ≡ true → x ≡ true
and_first true y h = refl
and_first false y h = h

and_second : (x y : Bool) → x && y ≡ true → y ≡ true
and_second true y h = h
and_second false true h = refl
and_second false false h = h

-- eight truth values, all true
pub record AllTrue (r w t g a l u v : Bool) : Type 0 where
  pub r_true : r ≡ true
  pub w_true : w ≡ true
  pub t_true : t ≡ true
  pub g_true : g ≡ true
  pub a_true : a ≡ true
  pub l_true : l ≡ true
  pub u_true : u ≡ true
  pub v_true : v ≡ true

pub all_true : (r w t g a l u v : Bool) → r && w && t && g && a && l && u && v ≡ true → AllTrue r w t g a l u v
all_true r w t g a l u v all =
    let seven : r && w && t && g && a && l && u ≡ true = and_first (r && w && t && g && a && l && u) v all in
    let six : r && w && t && g && a && l ≡ true = and_first (r && w && t && g && a && l) u seven in
    let five : r && w && t && g && a ≡ true = and_first (r && w && t && g && a) l six in
    let four : r && w && t && g ≡ true = and_first (r && w && t && g) a five in
    let three : r && w && t ≡ true = and_first (r && w && t) g four in
    let two : r && w ≡ true = and_first (r && w) t three in
    record {
      r_true = and_first r w two;
      w_true = and_second r w two;
      t_true = and_second (r && w) t three;
      g_true = and_second (r && w && t) g four;
      a_true = and_second (r && w && t && g) a five;
      l_true = and_second (r && w && t && g && a) l six;
      u_true = and_second (r && w && t && g && a && l) u seven;
      v_true = and_second (r && w && t && g && a && l && u) v all;
    }

agree : (x y : Bool) → beq x y ≡ true → x ≡ y
agree x y = (booleans_Decides x y).0

itself : (x : Bool) → beq x x ≡ true
itself x = (booleans_Decides x x).1 refl

-- sets for which the test of equality is true are equal
pub is_same-true : (a b : RightSet) → is_same a b ≡ true → a ≡ b
unfolding is_same
is_same-true a b all =
    let each = all_true (beq a.r b.r) (beq a.w b.w) (beq a.t b.t) (beq a.g b.g) (beq a.a b.a) (beq a.l b.l) (beq a.u b.u) (beq a.v b.v) all in
    λ i. record {
      r = agree a.r b.r each.r_true i;
      w = agree a.w b.w each.w_true i;
      t = agree a.t b.t each.t_true i;
      g = agree a.g b.g each.g_true i;
      a = agree a.a b.a each.a_true i;
      l = agree a.l b.l each.l_true i;
      u = agree a.u b.u each.u_true i;
      v = agree a.v b.v each.v_true i;
    }

-- and it is true for each set and itself
pub is_same-self : (s : RightSet) → is_same s s ≡ true
unfolding is_same
is_same-self s =
    λ i. itself s.r i && itself s.w i && itself s.t i && itself s.g i && itself s.a i && itself s.l i && itself s.u i && itself s.v i

-- so it decides equality
pub is_same-Decides : (a b : RightSet) → Decides (is_same a b) (a ≡ b)
is_same-Decides a b = (is_same-true a b, λ e. ap (is_same a) (sym e) ∙ is_same-self a)
