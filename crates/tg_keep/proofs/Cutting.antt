-- The whole lines of a file, without what comes after them.
use Rattle.std.proofs.Common.{◌≡◌, ◌⊎◌, inl, inr, ℕ, suc, ◌+◌, ◌≤◌, List, [], ◌∷◌, ◌++◌, length, take, map, sym, ◌∙◌, ap, arith, length-append}
use Rattle.std.specs.Prelude.{sum_by, fold}
use Rattle.std.proofs.lemmas.Bool.{cases_eq, cases_Bool}
use Rattle.std.proofs.lemmas.List.Sums.{sum_by-cons}
use Rattle.tg_keep.specs.Lines.{is_whole, last_sum_after, length_after, lines_from, sum_in, text_in, texts_after, whole_from, whole_lines}
use Rattle.tg_keep.proofs.Reading.{lines_from_end, lines_from_feed, lines_from_other, whole_from_end, whole_from_other, whole_from_whole}

abbrev line_length : List ℕ → ℕ
line_length line = length line + 1

abbrev next_sum : List ℕ → List ℕ → List ℕ
next_sum sum line = sum_in line

-- There is no whole line, or the whole lines are those of the first m bytes.
abbrev AreCut : List ℕ → List ℕ → List ℕ → Type 0
AreCut before line bytes =
    let lines = whole_from before (lines_from line bytes) in
    (lines ≡ []) ⊎ ((m : ℕ) × (m ≤ length bytes) × (sum_by line_length lines ≡ length line + m) × (whole_from before (lines_from line (take m bytes)) ≡ lines))

cut_lines : (before line bytes : List ℕ) → AreCut before line bytes
cut_lines before line [] = inl (ap (whole_from before) (lines_from_end line) ∙ whole_from_end before)
cut_lines before line (byte ∷ bytes) = elim (cases_eq byte 10) [
  | inl feed ↦ elim (cases_Bool (is_whole before line)) [
    | inl whole ↦
        let rest = whole_from (sum_in line) (lines_from [] bytes) in
        let step : whole_from before (lines_from line (byte ∷ bytes)) ≡ line ∷ rest =
        ap (whole_from before) (lines_from_feed line byte bytes feed) ∙ whole_from_whole before line (lines_from [] bytes) whole in
        elim (cut_lines (sum_in line) [] bytes) [
          | inl none ↦
              let only : whole_from before (lines_from line (byte ∷ bytes)) ≡ line ∷ [] = step ∙ ap (λ (ls : List (List ℕ)). line ∷ ls) none in
              inr (
                1,
                omega arith,
                ap (sum_by line_length) only ∙ sum_by-cons line_length line [] ∙ omega arith,
                ap (whole_from before) (lines_from_feed line byte [] feed)
                    ∙ whole_from_whole before line (lines_from [] []) whole
                    ∙ ap (λ (ls : List (List ℕ)). line ∷ whole_from (sum_in line) ls) (lines_from_end [])
                    ∙ ap (λ (ls : List (List ℕ)). line ∷ ls) (whole_from_end (sum_in line))
                    ∙ sym only,
              )
          | inr some ↦
              inr (
                suc some.0,
                omega (arith, some.1),
                ap (sum_by line_length) step ∙ sum_by-cons line_length line rest ∙ omega (arith, some.2),
                ap (whole_from before) (lines_from_feed line byte (take some.0 bytes) feed)
                    ∙ whole_from_whole before line (lines_from [] (take some.0 bytes)) whole
                    ∙ ap (λ (ls : List (List ℕ)). line ∷ ls) some.3
                    ∙ sym step,
              )
        ]
    | inr other ↦ inl (ap (whole_from before) (lines_from_feed line byte bytes feed) ∙ whole_from_other before line (lines_from [] bytes) other)
  ]
  | inr other ↦
      let step : lines_from line (byte ∷ bytes) ≡ lines_from (line ++ byte ∷ []) bytes = lines_from_other line byte bytes other in
      elim (cut_lines before (line ++ byte ∷ []) bytes) [
        | inl none ↦ inl (ap (whole_from before) step ∙ none)
        | inr some ↦
            inr (
              suc some.0,
              omega (arith, some.1),
              ap (λ ls. sum_by line_length (whole_from before ls)) step ∙ some.2 ∙ omega (arith, length-append line (byte ∷ [])),
              ap (whole_from before) (lines_from_other line byte (take some.0 bytes) other) ∙ some.3 ∙ sym (ap (whole_from before) step),
            )
      ]
]

-- The bytes up to here have the whole lines, and all of them.
pub record LinesEndAt (before bytes : List ℕ) (end : ℕ) : Type 0 where
  pub within : end ≤ length bytes
  pub lines : whole_lines before (take end bytes) ≡ whole_lines before bytes

pub lines_end_at : (before bytes : List ℕ) (end : ℕ) → end ≡ length_after before bytes → LinesEndAt before bytes end
unfolding length_after
lines_end_at before bytes end is = elim (cut_lines before [] bytes) [
  | inl none ↦
      let start : end ≡ 0 = is ∙ ap (sum_by line_length) none in
      record {
        within = omega (arith, start);
        lines = ap (λ n. whole_lines before (take n bytes)) start ∙ ap (whole_from before) (lines_from_end []) ∙ whole_from_end before ∙ sym none;
      }
  | inr some ↦
      let place : end ≡ some.0 = is ∙ some.2 ∙ omega arith in
      record {
        within = omega (arith, some.1, place);
        lines = ap (λ n. whole_lines before (take n bytes)) place ∙ some.3;
      }
]

pub length_cut : (before bytes : List ℕ) (end : ℕ) → end ≡ length_after before bytes → length_after before (take end bytes) ≡ end
unfolding length_after
length_cut before bytes end is = ap (sum_by line_length) (lines_end_at before bytes end is).lines ∙ sym is

pub sum_cut : (before bytes : List ℕ) (end : ℕ) → end ≡ length_after before bytes → last_sum_after before (take end bytes) ≡ last_sum_after before bytes
unfolding last_sum_after
sum_cut before bytes end is = ap (fold next_sum before) (lines_end_at before bytes end is).lines

pub texts_cut : (before bytes : List ℕ) (end : ℕ) → end ≡ length_after before bytes → texts_after before (take end bytes) ≡ texts_after before bytes
unfolding texts_after
texts_cut before bytes end is = ap (map text_in) (lines_end_at before bytes end is).lines
