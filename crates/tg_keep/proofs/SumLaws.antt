-- The steps of the register, a byte at a time.
use Rattle.std.proofs.Common.{◌≡◌, ℕ, zero, suc, ◌+◌, ◌*◌, ◌/◌, ◌%◌, ◌^◌, ◌<◌, bit_xor, bit_and, refl, sym, ◌∙◌, ap, arith}
use Rattle.std.specs.Int.Bits.{xor_shr, xor_mod, xor_assoc, xor_zero_r, xor_shifted, shifted_half, shifted_even}
use Rattle.std.proofs.lemmas.Nat.{xor_comm, and_mask}
use Rattle.tg_keep.specs.Sums.{with_bit_out, with_bits_out, with_byte, digit}

xor_swap : (a b c d : ℕ) → bit_xor (bit_xor a b) (bit_xor c d) ≡ bit_xor (bit_xor a c) (bit_xor b d)
xor_swap a b c d =
    xor_assoc a b (bit_xor c d)
    ∙ ap (λ x. bit_xor a x) (sym (xor_assoc b c d) ∙ ap (λ x. bit_xor x d) (xor_comm b c) ∙ xor_assoc c b d)
    ∙ sym (xor_assoc a c (bit_xor b d))

-- a bit that leaves brings the polynomial in or not
times-xor : (x y : ℕ) → x < 2 → y < 2 → bit_xor x y * 0xEDB8_8320 ≡ bit_xor (x * 0xEDB8_8320) (y * 0xEDB8_8320)
times-xor zero zero x_in y_in = refl
times-xor zero (suc zero) x_in y_in = refl
times-xor (suc zero) zero x_in y_in = refl
times-xor (suc zero) (suc zero) x_in y_in = refl
times-xor (suc (suc x)) y x_in y_in = absurd (omega arith)
times-xor zero (suc (suc y)) x_in y_in = absurd (omega arith)
times-xor (suc zero) (suc (suc y)) x_in y_in = absurd (omega arith)

with_bit_out-xor : (a b : ℕ) → with_bit_out (bit_xor a b) ≡ bit_xor (with_bit_out a) (with_bit_out b)
unfolding with_bit_out
with_bit_out-xor a b =
    ap (λ x. bit_xor x (bit_xor a b % 2 * 0xEDB8_8320)) (xor_shr a b 1)
    ∙ ap (λ x. bit_xor (bit_xor (a / 2) (b / 2)) (x * 0xEDB8_8320)) (xor_mod a b 1)
    ∙ ap (λ x. bit_xor (bit_xor (a / 2) (b / 2)) x) (times-xor (a % 2) (b % 2) (omega arith) (omega arith))
    ∙ xor_swap (a / 2) (b / 2) (a % 2 * 0xEDB8_8320) (b % 2 * 0xEDB8_8320)

with_bits_out-xor : (bits a b : ℕ) → with_bits_out bits (bit_xor a b) ≡ bit_xor (with_bits_out bits a) (with_bits_out bits b)
unfolding with_bits_out
with_bits_out-xor zero a b = refl
with_bits_out-xor (suc bits) a b = ap (with_bits_out bits) (with_bit_out-xor a b) ∙ with_bits_out-xor bits (with_bit_out a) (with_bit_out b)

with_bit_out_zero : (h k : ℕ) → with_bit_out (h * 2 ^ suc k) ≡ h * 2 ^ k
unfolding with_bit_out
with_bit_out_zero h k =
    ap (λ x. bit_xor (h * 2 ^ suc k / 2) (x * 0xEDB8_8320)) (shifted_even h k)
    ∙ xor_zero_r (h * 2 ^ suc k / 2)
    ∙ shifted_half h k

with_bits_out_zeros : (bits h : ℕ) → with_bits_out bits (h * 2 ^ bits) ≡ h
unfolding with_bits_out
with_bits_out_zeros zero h = omega arith
with_bits_out_zeros (suc bits) h = ap (with_bits_out bits) (with_bit_out_zero h bits) ∙ with_bits_out_zeros bits h

-- the upper bits move down, and the table has what the lowest eight make
pub with_byte_by_table : (register byte : ℕ) → with_byte register byte ≡ bit_xor (with_bits_out 8 (bit_xor (bit_and register 255) byte)) (register / 256)
with_byte_by_table register byte =
    let high = register / 256 in
    let low = register % 256 in
    let parts : register ≡ bit_xor (high * 256) low = (let e : register ≡ high * 256 + low = omega arith in e) ∙ sym (xor_shifted high 8 low (omega arith)) in
    ap (λ r. with_bits_out 8 (bit_xor r byte)) parts
    ∙ ap (with_bits_out 8) (xor_assoc (high * 256) low byte)
    ∙ with_bits_out-xor 8 (high * 256) (bit_xor low byte)
    ∙ ap (λ x. bit_xor x (with_bits_out 8 (bit_xor low byte))) (with_bits_out_zeros 8 high)
    ∙ xor_comm high (with_bits_out 8 (bit_xor low byte))
    ∙ ap (λ l. bit_xor (with_bits_out 8 (bit_xor l byte)) high) (sym (and_mask register 8))

pub digit_of_bits : (n : ℕ) → digit (bit_and n 15) ≡ digit (n % 16)
digit_of_bits n = ap (λ x. digit x) (and_mask n 4)
