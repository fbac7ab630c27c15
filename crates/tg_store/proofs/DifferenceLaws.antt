-- Two lists have one first difference at most. Where two that agree so far have it, and where they have none.
use Rattle.std.proofs.Common.{◌≡◌, ◌≢◌, ◌∙◌, sym, ap, subst, refl, ℕ, zero, suc, ◌<◌, ◌≤◌, List, [], ◌∷◌, Some, None, length, get_or, take, ⊎_elim, arith}
use Rattle.std.proofs.lemmas.Bool.{cases_lt}
use Rattle.std.specs.Prelude.{slice_get}
use Rattle.std.proofs.lemmas.List.{take_all}
use Rattle.std.proofs.lemmas.Option.{slice_get_past, slice_get_read}
use Rattle.tg_model.specs.declared.value.Value.{Value}
use Rattle.tg_store.specs.Faults.{IsFirstDifference}

slice_get-take : (xs : List Value) (n i : ℕ) → i < n → slice_get (take n xs) i ≡ slice_get xs i
slice_get-take xs zero i below = absurd (omega arith)
slice_get-take [] (suc n) i below = refl
slice_get-take (x ∷ xs) (suc n) zero below = refl
slice_get-take (x ∷ xs) (suc n) (suc i) below = slice_get-take xs n i (omega arith)

not_below : (xs ys : List Value) (i j : ℕ) → IsFirstDifference xs ys i → IsFirstDifference xs ys j → i < j → ⊥
not_below xs ys i j first other below =
    first.here
    (sym (slice_get-take xs j i below) ∙ ap (λ zs. slice_get zs i) other.before ∙ slice_get-take ys j i below)

pub one_first : (xs ys : List Value) (i j : ℕ) → IsFirstDifference xs ys i → IsFirstDifference xs ys j → i ≡ j
one_first xs ys i j first other =
    ⊎_elim
    (λ (below : i < j). absurd (not_below xs ys i j first other below))
    (λ (le : j ≤ i). ⊎_elim (λ (above : j < i). absurd (not_below xs ys j i other first above)) (λ (ge : i ≤ j). omega arith) (cases_lt j i))
    (cases_lt i j)

some_there : (xs : List Value) (at : ℕ) → at < length xs → slice_get xs at ≡ None → ⊥
some_there [] at below none = omega arith
some_there (x ∷ xs) zero below none = cc none
some_there (x ∷ xs) (suc at) below none = some_there xs at (omega arith) none

pub past_the_end : (xs ys : List Value) (at : ℕ) → at < length xs → length ys ≤ at → take at xs ≡ take at ys → IsFirstDifference xs ys at
past_the_end xs ys at below past same = record { before = same; here = λ e. some_there xs at below (e ∙ slice_get_past ys at past) }

pub differs_at : (xs ys : List Value) (at : ℕ) (x y : Value) → at < length xs → at < length ys → x ≡ get_or xs at x → y ≡ get_or ys at y → y ≢ x → take at xs ≡ take at ys → IsFirstDifference xs ys at
differs_at xs ys at x y here there x_is y_is other same = record {
  before = same;
  here = λ e. let both : Some y ≡ Some x = sym (slice_get_read ys (length ys) at y refl there y_is) ∙ sym e ∙ slice_get_read xs (length xs) at x refl here x_is in other (cc both);
}

pub longer : (xs ys : List Value) (at : ℕ) → length xs ≤ at → at ≤ length xs → length xs < length ys → take at xs ≡ take at ys → IsFirstDifference xs ys (length xs)
longer xs ys at past room more same =
    let is : at ≡ length xs = omega arith in
    let below : at < length ys = omega arith in
    subst (IsFirstDifference xs ys) is (record { before = same; here = λ e. some_there ys at below (sym e ∙ slice_get_past xs at past) })

pub alike : (xs ys : List Value) (at : ℕ) → length xs ≤ at → length ys ≤ length xs → take at xs ≡ take at ys → ys ≡ xs
alike xs ys at past no_more same = sym (take_all at ys (omega arith)) ∙ sym same ∙ take_all at xs past
