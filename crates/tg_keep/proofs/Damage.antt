-- What a crash leaves of a batch isn't damage.
use Rattle.std.proofs.Common.{◌≡◌, ◌⊎◌, inl, inr, ℕ, zero, suc, ◌+◌, Bool, true, false, ◌&&◌, ◌||◌, List, [], ◌∷◌, ◌++◌, length, drop, refl, sym, ◌∙◌, ap, arith, length-append}
use Rattle.std.specs.List.{list_any}
use Rattle.std.specs.Prelude.{sum_by}
use Rattle.std.proofs.lemmas.Bool.{cases_eq, cases_Bool}
use Rattle.std.proofs.lemmas.List.{drop-drop, drop_at}
use Rattle.std.proofs.lemmas.List.Sums.{sum_by-cons}
use Rattle.tg_keep.specs.Fronts.{IsZeroOr}
use Rattle.tg_keep.specs.Lines.{begins_in, first_sum, has_zero, is_whole, last_sum_after, length_after, lines_from, raw_lines, sum_in, whole_from, whole_lines}
use Rattle.tg_keep.specs.Opened.{BeginsOnce, has_batch, has_later_batch, is_damaged}
use Rattle.tg_keep.proofs.LineLaws.{zero_is_not_whole}
use Rattle.tg_keep.proofs.Reading.{has_zero-append, has_zero_last, lines_from_end, lines_from_feed, lines_from_other, whole_from_end, whole_from_other, whole_from_whole}
use Rattle.tg_keep.proofs.Joined.{AreWhole, length_joined}

-- none of these lines has the mark of a batch's first line
abbrev NoneBegins : List (List ℕ) → Type 0
NoneBegins lines = list_any begins_in lines ≡ false

or_left : (a b : Bool) → (a || b) ≡ false → a ≡ false
or_left true b is = cc
or_left false b is = refl

or_right : (a b : Bool) → (a || b) ≡ false → b ≡ false
or_right true b is = cc
or_right false b is = is

and_none : (a b : Bool) → (a ≡ false) ⊎ (b ≡ false) → (a && b) ≡ false
and_none false b is = refl
and_none true b (inl is) = cc
and_none true b (inr is) = is

or_none : (a b : Bool) → a ≡ false → b ≡ false → (a || b) ≡ false
or_none a b none_a none_b = ap (λ c. c || b) none_a ∙ none_b

batch_end : (sum : List ℕ) → has_batch sum [] ≡ false
unfolding has_batch
batch_end sum = refl

batch_step : (sum line : List ℕ) (lines : List (List ℕ)) → has_batch sum (line ∷ lines) ≡ ((is_whole sum line && begins_in line) || has_batch (sum_in line) lines)
unfolding has_batch
batch_step sum line lines = refl

-- the line that was left so far: it has a zero, or it is the one that was written
abbrev IsTornOr : List ℕ → List ℕ → Type 0
IsTornOr left written = (has_zero left ≡ true) ⊎ (left ≡ written)

-- after a line's end no line begins a batch
none_left : (sum before line written left : List ℕ) → IsTornOr line before → IsZeroOr written left → NoneBegins (lines_from before written) → has_batch sum (lines_from line left) ≡ false
none_left sum before line written [] torn kept none = ap (has_batch sum) (lines_from_end line) ∙ batch_end sum
none_left sum before line [] (x ∷ left) torn kept none =
    let blank : x ≡ 0 = zero_of x (kept 0) in
    ap (λ b. has_batch sum (lines_from line (b ∷ left))) blank
    ∙ ap (has_batch sum) (lines_from_other line 0 left (omega arith))
    ∙ none_left sum before (line ++ 0 ∷ []) [] left (inl (has_zero_last line)) (λ i. kept (suc i)) none
  where
    zero_of : (x : ℕ) → (x ≡ 0) ⊎ (x ≡ 0) → x ≡ 0
    zero_of x (inl is) = is
    zero_of x (inr is) = is
none_left sum before line (y ∷ written) (x ∷ left) torn kept none = elim (kept 0) [
  | inl blank ↦ elim (cases_eq y 10) [
    | inl feed ↦
        let after : NoneBegins (lines_from [] written) = or_right (begins_in before) (list_any begins_in (lines_from [] written)) (sym (ap (list_any begins_in) (lines_from_feed before y written feed)) ∙ none) in
        ap (λ b. has_batch sum (lines_from line (b ∷ left))) blank
        ∙ ap (has_batch sum) (lines_from_other line 0 left (omega arith))
        ∙ none_left sum [] (line ++ 0 ∷ []) written left (inl (has_zero_last line)) (λ i. kept (suc i)) after
    | inr other ↦
        ap (λ b. has_batch sum (lines_from line (b ∷ left))) blank
        ∙ ap (has_batch sum) (lines_from_other line 0 left (omega arith))
        ∙ none_left sum (before ++ y ∷ []) (line ++ 0 ∷ []) written left (inl (has_zero_last line)) (λ i. kept (suc i))
        (sym (ap (list_any begins_in) (lines_from_other before y written other)) ∙ none)
  ]
  | inr same ↦ elim (cases_eq y 10) [
    | inl feed ↦
        let parts : (begins_in before || list_any begins_in (lines_from [] written)) ≡ false = sym (ap (list_any begins_in) (lines_from_feed before y written feed)) ∙ none in
        let after : NoneBegins (lines_from [] written) = or_right (begins_in before) (list_any begins_in (lines_from [] written)) parts in
        let here : (is_whole sum line && begins_in line) ≡ false = elim torn [
          | inl has ↦ and_none (is_whole sum line) (begins_in line) (inl (zero_is_not_whole sum line has))
          | inr is ↦ and_none (is_whole sum line) (begins_in line) (inr (ap begins_in is ∙ or_left (begins_in before) (list_any begins_in (lines_from [] written)) parts))
        ] in
        ap (has_batch sum) (lines_from_feed line x left (same ∙ feed))
        ∙ batch_step sum line (lines_from [] left)
        ∙ or_none (is_whole sum line && begins_in line) (has_batch (sum_in line) (lines_from [] left)) here
        (none_left (sum_in line) [] [] written left (inr refl) (λ i. kept (suc i)) after)
    | inr other ↦
        let torn_on : IsTornOr (line ++ y ∷ []) (before ++ y ∷ []) = elim torn [
          | inl has ↦ inl (has_zero-append line y has)
          | inr is ↦ inr (ap (λ (l : List ℕ). l ++ y ∷ []) is)
        ] in
        ap (λ b. has_batch sum (lines_from line (b ∷ left))) same
        ∙ ap (has_batch sum) (lines_from_other line y left other)
        ∙ none_left sum (before ++ y ∷ []) (line ++ y ∷ []) written left torn_on (λ i. kept (suc i)) (sym (ap (list_any begins_in) (lines_from_other before y written other)) ∙ none)
  ]
]

later_end : has_later_batch [] ≡ false
unfolding has_later_batch
later_end = refl

later_step : (line : List ℕ) (lines : List (List ℕ)) → has_later_batch (line ∷ lines) ≡ has_batch (sum_in line) lines
unfolding has_later_batch
later_step line lines = refl

-- no line after the first begins a batch
none_later : (before line written left : List ℕ) → IsZeroOr written left → NoneBegins (drop 1 (lines_from before written)) → has_later_batch (lines_from line left) ≡ false
none_later before line written [] kept none = ap has_later_batch (lines_from_end line) ∙ later_end
none_later before line [] (x ∷ left) kept none =
    let blank : x ≡ 0 = zero_of x (kept 0) in
    ap (λ b. has_later_batch (lines_from line (b ∷ left))) blank
    ∙ ap has_later_batch (lines_from_other line 0 left (omega arith))
    ∙ none_later before (line ++ 0 ∷ []) [] left (λ i. kept (suc i)) none
  where
    zero_of : (x : ℕ) → (x ≡ 0) ⊎ (x ≡ 0) → x ≡ 0
    zero_of x (inl is) = is
    zero_of x (inr is) = is
none_later before line (y ∷ written) (x ∷ left) kept none = elim (cases_eq y 10) [
  | inl feed ↦
      let after : NoneBegins (lines_from [] written) = sym (ap (λ l. list_any begins_in (drop 1 l)) (lines_from_feed before y written feed)) ∙ none in
      elim (kept 0) [
        | inl blank ↦
            ap (λ b. has_later_batch (lines_from line (b ∷ left))) blank
            ∙ ap has_later_batch (lines_from_other line 0 left (omega arith))
            ∙ none_later [] (line ++ 0 ∷ []) written left (λ i. kept (suc i)) (none_in_tail (lines_from [] written) after)
        | inr same ↦
            ap has_later_batch (lines_from_feed line x left (same ∙ feed))
            ∙ later_step line (lines_from [] left)
            ∙ none_left (sum_in line) [] [] written left (inr refl) (λ i. kept (suc i)) after
      ]
  | inr other ↦
      let after : NoneBegins (drop 1 (lines_from (before ++ y ∷ []) written)) = sym (ap (λ l. list_any begins_in (drop 1 l)) (lines_from_other before y written other)) ∙ none in
      elim (kept 0) [
        | inl blank ↦
            ap (λ b. has_later_batch (lines_from line (b ∷ left))) blank
            ∙ ap has_later_batch (lines_from_other line 0 left (omega arith))
            ∙ none_later (before ++ y ∷ []) (line ++ 0 ∷ []) written left (λ i. kept (suc i)) after
        | inr same ↦
            ap (λ b. has_later_batch (lines_from line (b ∷ left))) same
            ∙ ap has_later_batch (lines_from_other line y left other)
            ∙ none_later (before ++ y ∷ []) (line ++ y ∷ []) written left (λ i. kept (suc i)) after
      ]
]
  where
    none_in_tail : (lines : List (List ℕ)) → NoneBegins lines → NoneBegins (drop 1 lines)
    none_in_tail [] none = none
    none_in_tail (line ∷ lines) none = or_right (begins_in line) (list_any begins_in lines) none

-- nor after any later line
none_after : (n : ℕ) (lines : List (List ℕ)) → has_later_batch lines ≡ false → has_later_batch (drop n lines) ≡ false
none_after zero lines none = none
none_after (suc n) [] none = later_end
none_after (suc n) (line ∷ []) none = ap has_later_batch (drop_none n) ∙ later_end
  where
    drop_none : (n : ℕ) → ◌≡◌ {A = List (List ℕ)} (drop n []) []
    drop_none zero = refl
    drop_none (suc n) = refl
none_after (suc n) (line ∷ (next ∷ lines)) none =
    none_after n (next ∷ lines)
    (later_step next lines
    ∙ or_right (is_whole (sum_in line) next && begins_in next) (has_batch (sum_in next) lines) (sym (later_step line (next ∷ lines) ∙ batch_step (sum_in line) next lines) ∙ none))

abbrev line_length : List ℕ → ℕ
line_length line = length line + 1

-- There is no whole line, or the lines after the whole ones are those of the bytes after m.
abbrev IsRest : List ℕ → List ℕ → List ℕ → Type 0
IsRest before line bytes =
    let lines = whole_from before (lines_from line bytes) in
    (lines ≡ []) ⊎ ((m : ℕ) × (sum_by line_length lines ≡ length line + m) × (lines_from [] (drop m bytes) ≡ drop (length lines) (lines_from line bytes)))

rest_after : (before line bytes : List ℕ) → IsRest before line bytes
rest_after before line [] = inl (ap (whole_from before) (lines_from_end line) ∙ whole_from_end before)
rest_after before line (byte ∷ bytes) = elim (cases_eq byte 10) [
  | inl feed ↦ elim (cases_Bool (is_whole before line)) [
    | inl whole ↦
        let rest = whole_from (sum_in line) (lines_from [] bytes) in
        let all = lines_from line (byte ∷ bytes) in
        let lines : all ≡ line ∷ lines_from [] bytes = lines_from_feed line byte bytes feed in
        let step : whole_from before all ≡ line ∷ rest = ap (whole_from before) lines ∙ whole_from_whole before line (lines_from [] bytes) whole in
        elim (rest_after (sum_in line) [] bytes) [
          | inl none ↦
              let only : whole_from before all ≡ line ∷ [] = step ∙ ap (λ (ls : List (List ℕ)). line ∷ ls) none in
              inr (
                1,
                ap (sum_by line_length) only ∙ sum_by-cons line_length line [] ∙ omega arith,
                sym (ap (λ (ls : List (List ℕ)). drop (length ls) all) only ∙ ap (λ (ls : List (List ℕ)). drop 1 ls) lines),
              )
          | inr some ↦
              inr (
                suc some.0,
                ap (sum_by line_length) step ∙ sum_by-cons line_length line rest ∙ omega (arith, some.1),
                some.2 ∙ sym (ap (λ (ls : List (List ℕ)). drop (length ls) all) step ∙ ap (λ (ls : List (List ℕ)). drop (suc (length rest)) ls) lines),
              )
        ]
    | inr other ↦ inl (ap (whole_from before) (lines_from_feed line byte bytes feed) ∙ whole_from_other before line (lines_from [] bytes) other)
  ]
  | inr other ↦
      let step : lines_from line (byte ∷ bytes) ≡ lines_from (line ++ byte ∷ []) bytes = lines_from_other line byte bytes other in
      elim (rest_after before (line ++ byte ∷ []) bytes) [
        | inl none ↦ inl (ap (whole_from before) step ∙ none)
        | inr some ↦
            inr (
              suc some.0,
              ap (λ ls. sum_by line_length (whole_from before ls)) step ∙ some.1 ∙ omega (arith, length-append line (byte ∷ [])),
              some.2 ∙ sym (ap (λ ls. drop (length (whole_from before ls)) ls) step),
            )
      ]
]

raw_rest : (before bytes : List ℕ) → raw_lines (drop (length_after before bytes) bytes) ≡ drop (length (whole_lines before bytes)) (raw_lines bytes)
unfolding length_after
raw_rest before bytes = elim (rest_after before [] bytes) [
  | inl none ↦ ap (λ n. raw_lines (drop n bytes)) (ap (sum_by line_length) none) ∙ sym (ap (λ (ls : List (List ℕ)). drop (length ls) (raw_lines bytes)) none)
  | inr some ↦ let place : sum_by line_length (whole_lines before bytes) ≡ some.0 = some.1 ∙ omega arith in ap (λ n. raw_lines (drop n bytes)) place ∙ some.2
]

-- what a crash leaves of lines over zeros has no damage after its whole lines
no_damage_in : (before written left : List ℕ) → IsZeroOr written left → NoneBegins (drop 1 (raw_lines written)) → has_later_batch (raw_lines (drop (length_after before left) left)) ≡ false
no_damage_in before written left kept none =
    ap has_later_batch (raw_rest before left) ∙ none_after (length (whole_lines before left)) (raw_lines left) (none_later [] [] written left kept none)

pub no_damage : (front written left : List ℕ) → AreWhole first_sum front → IsZeroOr written left → BeginsOnce written → is_damaged (front ++ left) ≡ false
no_damage front written left whole kept none =
    let k = length_after (last_sum_after first_sum front) left in
    let size : length_after first_sum (front ++ left) ≡ length front + k = length_joined first_sum front left whole ∙ ap (λ n. n + k) whole in
    let rest : drop (length front + k) (front ++ left) ≡ drop k left = sym (drop-drop k (length front) (front ++ left)) ∙ ap (drop k) (drop_at front left (length front) refl) in
    ap (λ n. has_later_batch (raw_lines (drop n (front ++ left)))) size
    ∙ ap (λ l. has_later_batch (raw_lines l)) rest
    ∙ no_damage_in (last_sum_after first_sum front) written left kept none

-- all lines of whole lines are whole
raw_whole : (before line bytes : List ℕ) → sum_by line_length (whole_from before (lines_from line bytes)) ≡ length line + length bytes → whole_from before (lines_from line bytes) ≡ lines_from line bytes
raw_whole before line [] all = ap (whole_from before) (lines_from_end line) ∙ whole_from_end before ∙ sym (lines_from_end line)
raw_whole before line (byte ∷ bytes) all = elim (cases_eq byte 10) [
  | inl feed ↦ elim (cases_Bool (is_whole before line)) [
    | inl whole ↦
        let rest = whole_from (sum_in line) (lines_from [] bytes) in
        let lines : lines_from line (byte ∷ bytes) ≡ line ∷ lines_from [] bytes = lines_from_feed line byte bytes feed in
        let step : whole_from before (lines_from line (byte ∷ bytes)) ≡ line ∷ rest = ap (whole_from before) lines ∙ whole_from_whole before line (lines_from [] bytes) whole in
        let size : sum_by line_length rest ≡ 0 + length bytes = omega (arith, sym (ap (sum_by line_length) step) ∙ all, sum_by-cons line_length line rest) in
        step ∙ ap (λ (ls : List (List ℕ)). line ∷ ls) (raw_whole (sum_in line) [] bytes size) ∙ sym lines
    | inr other ↦
        let none : whole_from before (lines_from line (byte ∷ bytes)) ≡ [] = ap (whole_from before) (lines_from_feed line byte bytes feed) ∙ whole_from_other before line (lines_from [] bytes) other in
        let zero_length : 0 ≡ length line + length (byte ∷ bytes) = sym (ap (sum_by line_length) none) ∙ all in
        absurd (omega arith)
  ]
  | inr other ↦
      let step : lines_from line (byte ∷ bytes) ≡ lines_from (line ++ byte ∷ []) bytes = lines_from_other line byte bytes other in
      let size : sum_by line_length (whole_from before (lines_from (line ++ byte ∷ []) bytes)) ≡ length (line ++ byte ∷ []) + length bytes =
      sym (ap (λ ls. sum_by line_length (whole_from before ls)) step) ∙ all ∙ omega (arith, length-append line (byte ∷ [])) in
      ap (whole_from before) step ∙ raw_whole before (line ++ byte ∷ []) bytes size ∙ sym step
]

pub all_raw : (before bytes : List ℕ) → AreWhole before bytes → whole_lines before bytes ≡ raw_lines bytes
unfolding length_after
all_raw before bytes all = raw_whole before [] bytes (all ∙ omega arith)
