-- The letters and the bits of single rights: each right has its own.
use Rattle.std.proofs.Common.{◌≡◌, ℕ, ◌==◌, ◌^◌, Bool, true, false, List, [], ◌∷◌, IfSome, Some, refl, arith, if◌then◌else◌}
use Rattle.std.specs.List.{Contains, find}
use Rattle.std.proofs.lemmas.Bool.Decides.{Decides-eqb}
use Rattle.tg_rights.specs.declared.Right.{Right}
use Rattle.tg_rights.specs.declared.Right.TheVariants.{R, W, T, G, A, L, U, V}
use Rattle.tg_rights.specs.RightSet.{all_rights, letter_of, bit_of, right_of_letter, right_of_bit}

-- the list of all rights has each right
pub is_listed : (x : Right) → Contains all_rights x
is_listed R = (0, omega arith, refl)
is_listed W = (1, omega arith, refl)
is_listed T = (2, omega arith, refl)
is_listed G = (3, omega arith, refl)
is_listed A = (4, omega arith, refl)
is_listed L = (5, omega arith, refl)
is_listed U = (6, omega arith, refl)
is_listed V = (7, omega arith, refl)

-- what is found is as the test says
found_as : {P : Right → Type 0} (test : Right → Bool) (xs : List Right) → ((x : Right) → test x ≡ true → P x) → IfSome (find test xs) P
found_as test [] says = tt
found_as {P} test (y ∷ ys) says = step (test y) refl (found_as test ys says)
  where
    step : (passes : Bool) → test y ≡ passes → IfSome (find test ys) P → IfSome (if passes then Some y else find test ys) P
    step true here later = says y here
    step false here later = later

pub right_of_letter-letter_of : (x : Right) → right_of_letter (letter_of x) ≡ Some x
right_of_letter-letter_of R = refl
right_of_letter-letter_of W = refl
right_of_letter-letter_of T = refl
right_of_letter-letter_of G = refl
right_of_letter-letter_of A = refl
right_of_letter-letter_of L = refl
right_of_letter-letter_of U = refl
right_of_letter-letter_of V = refl

pub letter_of-right_of_letter : (n : ℕ) → IfSome (right_of_letter n) (λ x. n ≡ letter_of x)
letter_of-right_of_letter n = found_as (λ y. n == letter_of y) all_rights (λ x is. (Decides-eqb n (letter_of x)).0 is)

pub right_of_bit-bit_of : (x : Right) → right_of_bit (2 ^ bit_of x) ≡ Some x
right_of_bit-bit_of R = refl
right_of_bit-bit_of W = refl
right_of_bit-bit_of T = refl
right_of_bit-bit_of G = refl
right_of_bit-bit_of A = refl
right_of_bit-bit_of L = refl
right_of_bit-bit_of U = refl
right_of_bit-bit_of V = refl

pub bit_of-right_of_bit : (n : ℕ) → IfSome (right_of_bit n) (λ x. n ≡ 2 ^ bit_of x)
bit_of-right_of_bit n = found_as (λ y. n == 2 ^ bit_of y) all_rights (λ x is. (Decides-eqb n (2 ^ bit_of x)).0 is)
