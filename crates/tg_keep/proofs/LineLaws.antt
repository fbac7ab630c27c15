-- The parts of a line.
use Rattle.std.proofs.Common.{◌≡◌, ℕ, ◌+◌, ◌-◌, ◌<◌, ◌≤◌, Bool, true, false, not, ◌&&◌, ◌==◌, List, [], ◌∷◌, ◌++◌, length, get_or, take, drop, inl, inr, refl, sym, ◌∙◌, ap, arith, length-append}
use Rattle.std.specs.Prelude.{bytes_eq}
use Rattle.std.specs.Cmp.Lexicographic.{same_text}
use Rattle.std.proofs.lemmas.Bool.{cases_Bool, cases_lt}
use Rattle.std.proofs.lemmas.Bool.Decides.{nat_tests}
use Rattle.std.proofs.lemmas.List.{take-append-drop, take_all, drop-drop, length-take, length-drop}
use Rattle.tg_keep.specs.Sums.{digits, sum_after}
use Rattle.tg_keep.specs.Lines.{begins_in, has_zero, is_whole, line_of, mark_of, sum_in, text_in}

pub length-sum_after : (before text : List ℕ) → length (sum_after before text) ≡ 8
unfolding sum_after digits
length-sum_after before text = refl

pub length-line_of : (before : List ℕ) (begins : Bool) (text : List ℕ) → length (line_of before begins text) ≡ length text + 10
unfolding line_of
length-line_of before begins text =
    omega (arith, length-append text (32 ∷ mark_of begins ∷ sum_after before text), length-sum_after before text)

self_eq : (x : ℕ) → (x == x) ≡ true
self_eq x = grind (arith, nat_tests)

bytes_eq-front : (xs ys zs : List ℕ) → bytes_eq (xs ++ ys) (xs ++ zs) ≡ bytes_eq ys zs
bytes_eq-front [] ys zs = refl
bytes_eq-front (x ∷ xs) ys zs = ap (λ b. b && bytes_eq (xs ++ ys) (xs ++ zs)) (self_eq x) ∙ bytes_eq-front xs ys zs

and_false : (b : Bool) → (b && false) ≡ false
and_false true = refl
and_false false = refl

-- the space, the mark and the sum that a line with this text in front has to end with
abbrev pub end_of : List ℕ → List ℕ → List ℕ
end_of before line = 32 ∷ mark_of (begins_in line) ∷ sum_after before (text_in line)

pub is_whole_by_end : (before line : List ℕ) → is_whole before line ≡ (not (has_zero line) && bytes_eq (drop (length line - 10) line) (end_of before line))
unfolding is_whole line_of text_in
is_whole_by_end before line =
    let n = length line - 10 in
    ap (λ b. not (has_zero line) && b)
    (ap (λ l. bytes_eq l (take n line ++ end_of before line)) (sym (take-append-drop n line))
    ∙ bytes_eq-front (take n line) (drop n line) (end_of before line))

whole_is_long : (before line : List ℕ) → bytes_eq line (line_of before (begins_in line) (text_in line)) ≡ true → 10 ≤ length line
whole_is_long before line is =
    omega (arith, ap length (same_text line (line_of before (begins_in line) (text_in line)) (sym is)), length-line_of before (begins_in line) (text_in line))

pub short_is_not_whole : (before line : List ℕ) → length line < 10 → is_whole before line ≡ false
unfolding is_whole
short_is_not_whole before line short = elim (cases_Bool (bytes_eq line (line_of before (begins_in line) (text_in line)))) [
  | inl is ↦ (let long = whole_is_long before line is in absurd (omega arith))
  | inr is ↦ ap (λ b. not (has_zero line) && b) is ∙ and_false (not (has_zero line))
]

-- the digits are the last eight bytes
pub sum_in_end : (before line : List ℕ) → 10 ≤ length line → bytes_eq (drop (length line - 10) line) (end_of before line) ≡ true → sum_after before (text_in line) ≡ sum_in line
unfolding sum_in
sum_in_end before line long is =
    let n = length line - 10 in
    let same : drop n line ≡ end_of before line = same_text (drop n line) (end_of before line) (sym is) in
    let two : length line - 8 ≡ n + 2 = omega arith in
    sym (ap (λ l. drop 2 l) same) ∙ drop-drop 2 n line ∙ ap (λ k. drop k line) (sym two)

pub length-text_in : (line : List ℕ) → 10 ≤ length line → length (text_in line) + 10 ≡ length line
unfolding text_in
length-text_in line long = omega (arith, length-take (length line - 10) line)

pub begins_at : (line : List ℕ) → 10 ≤ length line → begins_in line ≡ (get_or line (length line - 10 + 1) 0 == 64)
unfolding begins_in
begins_at line long = let place : length line - 9 ≡ length line - 10 + 1 = omega arith in ap (λ i. get_or line i 0 == 64) place

true_is_not_false : {P : Type 0} (b : Bool) → b ≡ true → b ≡ false → P
true_is_not_false b is not = cc

pub whole_length : (before line : List ℕ) → is_whole before line ≡ true → 10 ≤ length line
whole_length before line is = elim (cases_lt (length line) 10) [
  | inl short ↦ true_is_not_false (is_whole before line) is (short_is_not_whole before line short)
  | inr long ↦ long
]

pub zero_is_not_whole : (before line : List ℕ) → has_zero line ≡ true → is_whole before line ≡ false
unfolding is_whole
zero_is_not_whole before line has = ap (λ b. not b && bytes_eq line (line_of before (begins_in line) (text_in line))) has

-- where there is no zero, the end decides
pub decided_by_end : (before line : List ℕ) → has_zero line ≡ false → is_whole before line ≡ bytes_eq (drop (length line - 10) line) (end_of before line)
decided_by_end before line none = is_whole_by_end before line ∙ ap (λ b. not b && bytes_eq (drop (length line - 10) line) (end_of before line)) none

and_right : (a b : Bool) → (a && b) ≡ true → b ≡ true
and_right true b is = is
and_right false b is = cc

pub text_in_front : (line : List ℕ) → text_in line ≡ take (length line - 10) line
unfolding text_in
text_in_front line = refl

-- a slice from here to the end
pub tail_is : (n : ℕ) (bytes : List ℕ) → take (length bytes - n) (drop n bytes) ≡ drop n bytes
tail_is n bytes = take_all (length bytes - n) (drop n bytes) (omega (arith, length-drop n bytes))

-- what is compared at a line's end
pub decided : (before line sum : List ℕ) (begins : Bool) → 10 ≤ length line → has_zero line ≡ false → begins ≡ (get_or line (length line - 10 + 1) 0 == 64)
    → sum ≡ sum_after before (take (length line - 10) line)
    → is_whole before line ≡ bytes_eq (take (length line - (length line - 10)) (drop (length line - 10) line)) (32 ∷ mark_of begins ∷ sum)
decided before line sum begins long none mark digits =
    decided_by_end before line none
    ∙ ap (λ s. bytes_eq (drop (length line - 10) line) (32 ∷ mark_of (begins_in line) ∷ s)) (ap (sum_after before) (text_in_front line) ∙ sym digits)
    ∙ ap (λ b. bytes_eq (drop (length line - 10) line) (32 ∷ mark_of b ∷ sum)) (begins_at line long ∙ sym mark)
    ∙ ap (λ l. bytes_eq l (32 ∷ mark_of begins ∷ sum)) (sym (tail_is (length line - 10) line))

pub sum_of_whole : (before line : List ℕ) → is_whole before line ≡ true → sum_after before (take (length line - 10) line) ≡ sum_in line
sum_of_whole before line whole =
    ap (sum_after before) (sym (text_in_front line))
    ∙ sum_in_end before line (whole_length before line whole)
    (and_right (not (has_zero line)) (bytes_eq (drop (length line - 10) line) (end_of before line)) (sym (is_whole_by_end before line) ∙ whole))
