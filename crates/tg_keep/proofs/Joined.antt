-- Lines after whole lines.
use Rattle.std.proofs.Common.{◌≡◌, inl, inr, ℕ, ◌+◌, List, [], ◌∷◌, ◌++◌, length, map, refl, sym, ◌∙◌, ap, arith, length-append}
use Rattle.std.specs.Prelude.{sum_by, fold}
use Rattle.std.proofs.lemmas.Bool.{cases_eq, cases_Bool}
use Rattle.std.proofs.lemmas.List.{map-append}
use Rattle.std.proofs.lemmas.List.Sums.{sum_by-cons, sum_by-append, fold-append}
use Rattle.tg_keep.specs.Lines.{is_whole, last_sum_after, length_after, lines_from, sum_in, text_in, texts_after, whole_from, whole_lines}
use Rattle.tg_keep.proofs.Reading.{lines_from_end, lines_from_feed, lines_from_other, whole_from_end, whole_from_other, whole_from_whole}

abbrev line_length : List ℕ → ℕ
line_length line = length line + 1

abbrev next_sum : List ℕ → List ℕ → List ℕ
next_sum sum line = sum_in line

-- what is read of lines of which `line` was read, where all of the bytes are whole lines, and then of what comes after them
abbrev Joined : List ℕ → List ℕ → List ℕ → List ℕ → Type 0
Joined before line bytes more =
    let lines = whole_from before (lines_from line bytes) in
    whole_from before (lines_from line (bytes ++ more)) ≡ lines ++ whole_lines (fold next_sum before lines) more

no_length : (line : List ℕ) → 0 ≡ length line → line ≡ []
no_length [] is = refl
no_length (b ∷ line) is = absurd (omega arith)

whole_joined : (before line bytes more : List ℕ) → sum_by line_length (whole_from before (lines_from line bytes)) ≡ length line + length bytes → Joined before line bytes more
whole_joined before line [] more all =
    let none : whole_from before (lines_from line []) ≡ [] = ap (whole_from before) (lines_from_end line) ∙ whole_from_end before in
    let short : line ≡ [] = no_length line (sym (ap (sum_by line_length) none) ∙ all ∙ omega arith) in
    ap (λ l. whole_from before (lines_from l more)) short
    ∙ sym (ap (λ ls. ls ++ whole_lines (fold next_sum before ls) more) none)
whole_joined before line (byte ∷ bytes) more all = elim (cases_eq byte 10) [
  | inl feed ↦ elim (cases_Bool (is_whole before line)) [
    | inl whole ↦
        let step : whole_from before (lines_from line (byte ∷ bytes)) ≡ line ∷ whole_from (sum_in line) (lines_from [] bytes) =
        ap (whole_from before) (lines_from_feed line byte bytes feed) ∙ whole_from_whole before line (lines_from [] bytes) whole in
        let step_more : whole_from before (lines_from line (byte ∷ bytes ++ more)) ≡ line ∷ whole_from (sum_in line) (lines_from [] (bytes ++ more)) =
        ap (whole_from before) (lines_from_feed line byte (bytes ++ more) feed) ∙ whole_from_whole before line (lines_from [] (bytes ++ more)) whole in
        let rest : sum_by line_length (whole_from (sum_in line) (lines_from [] bytes)) ≡ 0 + length bytes =
        omega (arith, sym (ap (sum_by line_length) step) ∙ all, sum_by-cons line_length line (whole_from (sum_in line) (lines_from [] bytes))) in
        step_more
        ∙ ap (λ ls. line ∷ ls) (whole_joined (sum_in line) [] bytes more rest)
        ∙ sym (ap (λ ls. ls ++ whole_lines (fold next_sum before ls) more) step)
    | inr other ↦
        let none : whole_from before (lines_from line (byte ∷ bytes)) ≡ [] =
        ap (whole_from before) (lines_from_feed line byte bytes feed) ∙ whole_from_other before line (lines_from [] bytes) other in
        let zero_length : 0 ≡ length line + length (byte ∷ bytes) = sym (ap (sum_by line_length) none) ∙ all in
        absurd (omega arith)
  ]
  | inr other ↦
      let step : lines_from line (byte ∷ bytes) ≡ lines_from (line ++ byte ∷ []) bytes = lines_from_other line byte bytes other in
      let longer : sum_by line_length (whole_from before (lines_from (line ++ byte ∷ []) bytes)) ≡ length (line ++ byte ∷ []) + length bytes =
      sym (ap (λ ls. sum_by line_length (whole_from before ls)) step) ∙ all ∙ omega (arith, length-append line (byte ∷ [])) in
      ap (whole_from before) (lines_from_other line byte (bytes ++ more) other)
      ∙ whole_joined before (line ++ byte ∷ []) bytes more longer
      ∙ sym (ap (λ ls. whole_from before ls ++ whole_lines (fold next_sum before (whole_from before ls)) more) step)
]

-- all of the bytes are whole lines, each after the sum of the line before
abbrev pub AreWhole : List ℕ → List ℕ → Type 0
AreWhole before bytes = length_after before bytes ≡ length bytes

pub lines_joined : (before bytes more : List ℕ) → AreWhole before bytes → whole_lines before (bytes ++ more) ≡ whole_lines before bytes ++ whole_lines (last_sum_after before bytes) more
unfolding length_after last_sum_after
lines_joined before bytes more all = whole_joined before [] bytes more (all ∙ omega arith)

pub texts_joined : (before bytes more : List ℕ) → AreWhole before bytes → texts_after before (bytes ++ more) ≡ texts_after before bytes ++ texts_after (last_sum_after before bytes) more
unfolding texts_after
texts_joined before bytes more all = ap (map text_in) (lines_joined before bytes more all) ∙ map-append text_in (whole_lines before bytes) (whole_lines (last_sum_after before bytes) more)

pub length_joined : (before bytes more : List ℕ) → AreWhole before bytes → length_after before (bytes ++ more) ≡ length_after before bytes + length_after (last_sum_after before bytes) more
unfolding length_after
length_joined before bytes more all = ap (sum_by line_length) (lines_joined before bytes more all) ∙ sum_by-append line_length (whole_lines before bytes) (whole_lines (last_sum_after before bytes) more)

pub last_sum_joined : (before bytes more : List ℕ) → AreWhole before bytes → last_sum_after before (bytes ++ more) ≡ last_sum_after (last_sum_after before bytes) more
unfolding last_sum_after
last_sum_joined before bytes more all = ap (fold next_sum before) (lines_joined before bytes more all) ∙ fold-append next_sum before (whole_lines before bytes) (whole_lines (last_sum_after before bytes) more)
