-- A line that is written is read again.
use Rattle.std.proofs.Common.{◌≡◌, inl, inr, ℕ, ◌+◌, ◌-◌, ◌/◌, ◌%◌, ◌^◌, ◌<◌, ◌≤◌, Bool, true, false, not, ◌&&◌, ◌||◌, ◌==◌, List, [], ◌∷◌, ◌++◌, length, get_or, drop, map, refl, sym, ◌∙◌, ap, arith, append_assoc, length-append}
use Rattle.std.specs.Prelude.{bytes_eq, nat_lt, sum_by, fold}
use Rattle.std.specs.List.{list_any}
use Rattle.std.proofs.lemmas.Bool.{cases_Bool}
use Rattle.std.proofs.lemmas.Bool.Decides.{nat_tests}
use Rattle.std.proofs.lemmas.List.{append-nil, take_at, drop_at, drop-drop, get_or-append-add}
use Rattle.std.proofs.lemmas.List.Folds.{list_any-append}
use Rattle.tg_keep.specs.Sums.{digit, digits, sum_after}
use Rattle.tg_keep.specs.Lines.{begins_in, has_zero, is_text, is_whole, last_sum_after, length_after, sealed_line, line_of, lines_from, mark_of, sum_in, text_in, texts_after, whole_from, whole_lines}
use Rattle.tg_keep.proofs.LineLaws.{length-sum_after, length-line_of}
use Rattle.tg_keep.proofs.Reading.{lines_from_end, lines_from_feed, lines_from_other, whole_from_end, whole_from_whole}

below_is_other : (m k : ℕ) → k < m → (m == k) ≡ false
below_is_other m k lt = grind (arith, nat_tests)

differs : (m k : ℕ) → (m == k) ≡ false → m ≡ k → ⊥
differs m k is e = grind (arith, nat_tests)

or_parts : (a b : Bool) → (a || b) ≡ false → (a ≡ false) × (b ≡ false)
or_parts true b is = cc
or_parts false b is = (refl, is)

and_parts_of : (a b : Bool) → (not a && not b) ≡ true → (a ≡ false) × (b ≡ false)
and_parts_of true b is = cc
and_parts_of false true is = cc
and_parts_of false false is = (refl, refl)

digit_is_high : (n : ℕ) → 10 < digit n
digit_is_high n = elim (cases_Bool (nat_lt n 10)) [
  | inl small ↦ rw small (omega arith)
  | inr other ↦ rw other (omega arith)
]

digits_differ : (k n : ℕ) → k ≤ 10 → list_any (λ byte. byte == k) (digits n) ≡ false
unfolding digits
digits_differ k n low =
    let a = n % 16 in
    let b = n / 2 ^ 4 % 16 in
    let c = n / 2 ^ 8 % 16 in
    let d = n / 2 ^ 12 % 16 in
    let e = n / 2 ^ 16 % 16 in
    let f = n / 2 ^ 20 % 16 in
    let g = n / 2 ^ 24 % 16 in
    let of_a = digit a ∷ [] in
    let of_b = digit b ∷ of_a in
    let of_c = digit c ∷ of_b in
    let of_d = digit d ∷ of_c in
    let of_e = digit e ∷ of_d in
    let of_f = digit f ∷ of_e in
    let of_g = digit g ∷ of_f in
    one (n / 2 ^ 28 % 16) of_g (one g of_f (one f of_e (one e of_d (one d of_c (one c of_b (one b of_a (one a [] refl)))))))
  where
    one : (m : ℕ) (more : List ℕ) → list_any (λ byte. byte == k) more ≡ false → list_any (λ byte. byte == k) (digit m ∷ more) ≡ false
    one m more none = ap (λ b. b || list_any (λ byte. byte == k) more) (below_is_other (digit m) k (omega (arith, digit_is_high m))) ∙ none

sum_differs : (k : ℕ) (before text : List ℕ) → k ≤ 10 → list_any (λ byte. byte == k) (sum_after before text) ≡ false
unfolding sum_after
sum_differs k before text low = digits_differ k _ low

mark_is_high : (begins : Bool) → 10 < mark_of begins
mark_is_high true = omega arith
mark_is_high false = omega arith

-- a byte that is below the digits isn't in a line if it isn't in the text
line_differs : (k : ℕ) (before text : List ℕ) (begins : Bool) → k ≤ 10 → list_any (λ byte. byte == k) text ≡ false → list_any (λ byte. byte == k) (line_of before begins text) ≡ false
unfolding line_of
line_differs k before text begins low none =
    list_any-append (λ byte. byte == k) text (32 ∷ mark_of begins ∷ sum_after before text)
    ∙ ap (λ b. b || list_any (λ byte. byte == k) (32 ∷ mark_of begins ∷ sum_after before text)) none
    ∙ ap (λ b. b || list_any (λ byte. byte == k) (mark_of begins ∷ sum_after before text)) (below_is_other 32 k (omega arith))
    ∙ ap (λ b. b || list_any (λ byte. byte == k) (sum_after before text)) (below_is_other (mark_of begins) k (omega (arith, mark_is_high begins)))
    ∙ sum_differs k before text low

-- the parts of a line that is written
text_in_line : (before text : List ℕ) (begins : Bool) → text_in (line_of before begins text) ≡ text
unfolding text_in line_of
text_in_line before text begins =
    let end = 32 ∷ mark_of begins ∷ sum_after before text in
    take_at text end (length (text ++ end) - 10) (omega (arith, length-append text end, length-sum_after before text))

mark_says : (begins : Bool) → (mark_of begins == 64) ≡ begins
mark_says true = refl
mark_says false = refl

begins_in_line : (before text : List ℕ) (begins : Bool) → begins_in (line_of before begins text) ≡ begins
unfolding begins_in line_of
begins_in_line before text begins =
    let end = 32 ∷ mark_of begins ∷ sum_after before text in
    let place : length (text ++ end) - 9 ≡ length text + 1 = omega (arith, length-append text end, length-sum_after before text) in
    ap (λ i. get_or (text ++ end) i 0 == 64) place ∙ ap (λ b. b == 64) (get_or-append-add text end 1 0) ∙ mark_says begins

sum_in_line : (before text : List ℕ) (begins : Bool) → sum_in (line_of before begins text) ≡ sum_after before text
unfolding sum_in line_of
sum_in_line before text begins =
    let end = 32 ∷ mark_of begins ∷ sum_after before text in
    let place : length (text ++ end) - 8 ≡ length text + 2 = omega (arith, length-append text end, length-sum_after before text) in
    ap (λ i. drop i (text ++ end)) place ∙ sym (drop-drop 2 (length text) (text ++ end)) ∙ ap (drop 2) (drop_at text end (length text) refl)

bytes_eq_self : (bytes : List ℕ) → bytes_eq bytes bytes ≡ true
bytes_eq_self [] = refl
bytes_eq_self (b ∷ bytes) = ap (λ c. c && bytes_eq bytes bytes) (self_eq b) ∙ bytes_eq_self bytes
  where
    self_eq : (x : ℕ) → (x == x) ≡ true
    self_eq x = grind (arith, nat_tests)

line_is_whole : (before text : List ℕ) (begins : Bool) → is_text text ≡ true → is_whole before (line_of before begins text) ≡ true
unfolding is_whole
line_is_whole before text begins is =
    let line = line_of before begins text in
    let none : has_zero line ≡ false = line_differs 0 before text begins (omega arith) (and_parts_of (has_zero text) (list_any (λ byte. byte == 10) text) is).0 in
    ap (λ b. not b && bytes_eq line (line_of before (begins_in line) (text_in line))) none
    ∙ ap (λ b. bytes_eq line (line_of before b (text_in line))) (begins_in_line before text begins)
    ∙ ap (λ t. bytes_eq line (line_of before begins t)) (text_in_line before text begins)
    ∙ bytes_eq_self line

-- bytes without a line feed, and then one
lines_from_plain : (front line rest : List ℕ) → list_any (λ byte. byte == 10) line ≡ false → lines_from front (line ++ 10 ∷ rest) ≡ (front ++ line) ∷ lines_from [] rest
lines_from_plain front [] rest none = lines_from_feed front 10 rest refl ∙ ap (λ l. l ∷ lines_from [] rest) (sym (append-nil front))
lines_from_plain front (b ∷ line) rest none =
    let parts = or_parts (b == 10) (list_any (λ byte. byte == 10) line) none in
    lines_from_other front b (line ++ 10 ∷ rest) (differs b 10 parts.0)
    ∙ lines_from_plain (front ++ b ∷ []) line rest parts.1
    ∙ ap (λ l. l ∷ lines_from [] rest) (append_assoc front (b ∷ []) line)

pub own_line : (before text : List ℕ) (begins : Bool) → is_text text ≡ true → whole_lines before (sealed_line before begins text) ≡ line_of before begins text ∷ []
own_line before text begins is =
    let line = line_of before begins text in
    let parts = and_parts_of (has_zero text) (list_any (λ byte. byte == 10) text) is in
    ap (whole_from before) (lines_from_plain [] line [] (line_differs 10 before text begins (omega arith) parts.1))
    ∙ whole_from_whole before line (lines_from [] []) (line_is_whole before text begins is)
    ∙ ap (λ ls. line ∷ whole_from (sum_in line) ls) (lines_from_end [])
    ∙ ap (λ ls. line ∷ ls) (whole_from_end (sum_in line))

pub own_text : (before text : List ℕ) (begins : Bool) → is_text text ≡ true → texts_after before (sealed_line before begins text) ≡ text ∷ []
unfolding texts_after
own_text before text begins is = ap (map text_in) (own_line before text begins is) ∙ ap (λ t. t ∷ []) (text_in_line before text begins)

pub own_length : (before text : List ℕ) (begins : Bool) → is_text text ≡ true → length_after before (sealed_line before begins text) ≡ length text + 11
unfolding length_after
own_length before text begins is =
    let f : List ℕ → ℕ = λ line. length line + 1 in
    ap (sum_by f) (own_line before text begins is) ∙ omega (arith, length-line_of before begins text)

pub own_sum : (before text : List ℕ) (begins : Bool) → is_text text ≡ true → last_sum_after before (sealed_line before begins text) ≡ sum_after before text
unfolding last_sum_after
own_sum before text begins is =
    let g : List ℕ → List ℕ → List ℕ = λ sum line. sum_in line in
    ap (fold g before) (own_line before text begins is) ∙ sum_in_line before text begins
