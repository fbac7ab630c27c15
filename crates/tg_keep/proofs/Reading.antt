-- How the lines of a file are read, and what a crash leaves of them.
use Rattle.std.proofs.Common.{◌≡◌, ◌⊎◌, inl, inr, ℕ, suc, ◌+◌, ◌<◌, ◌≤◌, true, false, ◌==◌, List, [], ◌∷◌, ◌++◌, length, get_or, take, drop, map, refl, sym, ◌∙◌, ap, subst, arith}
use Rattle.std.specs.Prelude.{sum_by, fold, Option, Some, None, IfNone}
use Rattle.std.proofs.lemmas.Bool.{cases_eq, cases_Bool}
use Rattle.std.proofs.lemmas.Bool.Decides.{nat_tests}
use Rattle.std.proofs.lemmas.List.{take_more, drop_more, drop_all, take-map, length-map, length-take-le}
use Rattle.std.proofs.lemmas.List.Sums.{sum_by-cons}
use Rattle.tg_keep.specs.Lines.{has_zero, is_whole, last_sum_after, length_after, lines_from, raw_lines, sum_in, text_in, texts_after, whole_from, whole_lines}
use Rattle.tg_keep.specs.Reads.{ReadsLine}
use Rattle.tg_keep.proofs.LineLaws.{zero_is_not_whole, whole_length, length-text_in}
use Rattle.tg_keep.specs.Fronts.{IsZeroOr, IsFrontOf}

pub lines_from_end : (line : List ℕ) → lines_from line [] ≡ []
unfolding lines_from
lines_from_end line = refl

pub lines_from_feed : (line : List ℕ) (byte : ℕ) (bytes : List ℕ) → byte ≡ 10 → lines_from line (byte ∷ bytes) ≡ line ∷ lines_from [] bytes
unfolding lines_from
lines_from_feed line byte bytes is = grind (arith, nat_tests)

pub lines_from_other : (line : List ℕ) (byte : ℕ) (bytes : List ℕ) → (byte ≡ 10 → ⊥) → lines_from line (byte ∷ bytes) ≡ lines_from (line ++ byte ∷ []) bytes
unfolding lines_from
lines_from_other line byte bytes not = grind (arith, nat_tests)

pub whole_from_end : (before : List ℕ) → whole_from before [] ≡ []
unfolding whole_from
whole_from_end before = refl

pub whole_from_whole : (before line : List ℕ) (lines : List (List ℕ)) → is_whole before line ≡ true → whole_from before (line ∷ lines) ≡ line ∷ whole_from (sum_in line) lines
unfolding whole_from
whole_from_whole before line lines is = grind (arith, nat_tests)

pub whole_from_other : (before line : List ℕ) (lines : List (List ℕ)) → is_whole before line ≡ false → whole_from before (line ∷ lines) ≡ []
unfolding whole_from
whole_from_other before line lines is = grind (arith, nat_tests)

pub has_zero-append : (line : List ℕ) (byte : ℕ) → has_zero line ≡ true → has_zero (line ++ byte ∷ []) ≡ true
has_zero-append [] byte has = cc
has_zero-append (b ∷ line) byte has = elim (cases_Bool (b == 0)) [
  | inl here ↦ rw here refl
  | inr later ↦ rw later (has_zero-append line byte (rw later at has))
]

pub has_zero_last : (line : List ℕ) → has_zero (line ++ 0 ∷ []) ≡ true
has_zero_last [] = refl
has_zero_last (b ∷ line) = elim (cases_Bool (b == 0)) [
  | inl here ↦ rw here refl
  | inr later ↦ rw later (has_zero_last line)
]

-- nothing is read from a line with a zero on
zero_ends : (before line bytes : List ℕ) → has_zero line ≡ true → whole_from before (lines_from line bytes) ≡ []
zero_ends before line [] has = ap (whole_from before) (lines_from_end line) ∙ whole_from_end before
zero_ends before line (byte ∷ bytes) has = elim (cases_eq byte 10) [
  | inl feed ↦ ap (whole_from before) (lines_from_feed line byte bytes feed) ∙ whole_from_other before line (lines_from [] bytes) (zero_is_not_whole before line has)
  | inr other ↦ ap (whole_from before) (lines_from_other line byte bytes other) ∙ zero_ends before (line ++ byte ∷ []) bytes (has_zero-append line byte has)
]

-- a zero ends what is read, whatever comes after it
pub zero_byte_ends : (before line bytes : List ℕ) (byte : ℕ) → byte ≡ 0 → whole_from before (lines_from line (byte ∷ bytes)) ≡ []
zero_byte_ends before line bytes byte is =
    ap (λ b. whole_from before (lines_from line (b ∷ bytes))) is
    ∙ ap (whole_from before) (lines_from_other line 0 bytes (omega arith))
    ∙ zero_ends before (line ++ 0 ∷ []) bytes (has_zero_last line)

no_front : {X : Type 0} (all front : List X) → front ≡ [] → IsFrontOf all front
no_front all front is = (0, omega arith, is)

longer_front : {X : Type 0} (x : X) (all front : List X) → IsFrontOf all front → IsFrontOf (x ∷ all) (x ∷ front)
longer_front x all front is = (suc is.0, omega (arith, is.1), ap (λ l. x ∷ l) is.2)

along_front : {X : Type 0} (all more front lines : List X) → all ≡ more → front ≡ lines → IsFrontOf more lines → IsFrontOf all front
along_front {X} all more front lines e f is =
    let P : List X → Type 0 = λ l. IsFrontOf l front in
    let Q : List X → Type 0 = λ l. IsFrontOf more l in
    subst P (sym e) (subst Q (sym f) is)

zero_of : (a b : ℕ) → (a ≡ 0) ⊎ (a ≡ b) → b ≡ 0 → a ≡ 0
zero_of a b (inl is) e = is
zero_of a b (inr is) e = is ∙ e

-- The law of fronts: where each byte is a zero or the one that was written, the lines that are read are a front of those that were written.
pub fronts : (before line written left : List ℕ) → IsZeroOr written left → IsFrontOf (whole_from before (lines_from line written)) (whole_from before (lines_from line left))
fronts before line written [] kept = no_front _ _ (ap (whole_from before) (lines_from_end line) ∙ whole_from_end before)
fronts before line [] (x ∷ left) kept = no_front _ _ (zero_byte_ends before line left x (zero_of x 0 (kept 0) refl))
fronts before line (y ∷ written) (x ∷ left) kept = elim (kept 0) [
  | inl none ↦ no_front _ _ (zero_byte_ends before line left x none)
  | inr same ↦ elim (cases_eq y 10) [
    | inl feed ↦ elim (cases_Bool (is_whole before line)) [
      | inl whole ↦
          along_front _ _ _ _
          (ap (whole_from before) (lines_from_feed line y written feed) ∙ whole_from_whole before line (lines_from [] written) whole)
          (ap (whole_from before) (lines_from_feed line x left (same ∙ feed)) ∙ whole_from_whole before line (lines_from [] left) whole)
          (longer_front line _ _ (fronts (sum_in line) [] written left (λ i. kept (suc i))))
      | inr other ↦ no_front _ _ (ap (whole_from before) (lines_from_feed line x left (same ∙ feed)) ∙ whole_from_other before line (lines_from [] left) other)
    ]
    | inr other ↦
        along_front _ _ _ _
        (ap (whole_from before) (lines_from_other line y written other))
        (ap (λ b. whole_from before (lines_from line (b ∷ left))) same ∙ ap (whole_from before) (lines_from_other line y left other))
        (fronts before (line ++ y ∷ []) written left (λ i. kept (suc i)))
  ]
]

-- the same of what a function makes of each line
pub front_map : {X Y : Type 0} (f : X → Y) (all front : List X) → IsFrontOf all front → IsFrontOf (map f all) (map f front)
front_map f all front is = (is.0, omega (arith, is.1, length-map all f), ap (map f) is.2 ∙ sym (take-map f is.0 all))

pub texts_fronts : (before written left : List ℕ) → IsZeroOr written left → IsFrontOf (texts_after before written) (texts_after before left)
unfolding texts_after
texts_fronts before written left kept = front_map text_in (whole_lines before written) (whole_lines before left) (fronts before [] written left kept)

-- how far a loop that looks for the first line feed has come
pub feed_step : (bytes : List ℕ) (i : ℕ) → i < length bytes → (get_or bytes i 0 ≡ 10 → ⊥) → lines_from (take i bytes) (drop i bytes) ≡ lines_from (take (i + 1) bytes) (drop (i + 1) bytes)
feed_step bytes i within other =
    ap (lines_from (take i bytes)) (drop_more bytes i 0 within)
    ∙ lines_from_other (take i bytes) (get_or bytes i 0) (drop (i + 1) bytes) other
    ∙ ap (λ l. lines_from l (drop (i + 1) bytes)) (sym (take_more bytes i 0 within))

pub feed_at : (bytes : List ℕ) (i : ℕ) → i < length bytes → get_or bytes i 0 ≡ 10 → raw_lines bytes ≡ lines_from (take i bytes) (drop i bytes) → raw_lines bytes ≡ take i bytes ∷ raw_lines (drop (i + 1) bytes)
feed_at bytes i within feed so_far =
    so_far
    ∙ ap (lines_from (take i bytes)) (drop_more bytes i 0 within)
    ∙ lines_from_feed (take i bytes) (get_or bytes i 0) (drop (i + 1) bytes) feed

pub feed_none : (bytes : List ℕ) (i : ℕ) → length bytes ≤ i → raw_lines bytes ≡ lines_from (take i bytes) (drop i bytes) → raw_lines bytes ≡ []
feed_none bytes i past so_far = so_far ∙ ap (lines_from (take i bytes)) (drop_all i bytes past) ∙ lines_from_end (take i bytes)

pub ends_none : (before bytes : List ℕ) → raw_lines bytes ≡ [] → whole_lines before bytes ≡ []
ends_none before bytes none = ap (whole_from before) none ∙ whole_from_end before

pub ends_other : (before bytes line : List ℕ) (lines : List (List ℕ)) → raw_lines bytes ≡ line ∷ lines → is_whole before line ≡ false → whole_lines before bytes ≡ []
ends_other before bytes line lines is other = ap (whole_from before) is ∙ whole_from_other before line lines other

pub reads_line : (before bytes : List ℕ) (n : ℕ) → n < length bytes → raw_lines bytes ≡ take n bytes ∷ raw_lines (drop (n + 1) bytes) → is_whole before (take n bytes) ≡ true → ReadsLine before bytes (text_in (take n bytes)) (sum_in (take n bytes)) (drop (n + 1) bytes)
unfolding texts_after length_after last_sum_after
reads_line before bytes n within first whole =
    let line = take n bytes in
    let rest = whole_lines (sum_in line) (drop (n + 1) bytes) in
    let lines : whole_lines before bytes ≡ line ∷ rest = ap (whole_from before) first ∙ whole_from_whole before line (raw_lines (drop (n + 1) bytes)) whole in
    let size : length line ≡ n = length-take-le n bytes (omega arith) in
    let text : length (text_in line) + 10 ≡ length line = length-text_in line (whole_length before line whole) in
    let f : List ℕ → ℕ = λ l. length l + 1 in
    let g : List ℕ → List ℕ → List ℕ = λ sum l. sum_in l in
    let place : n + 1 ≡ length (text_in line) + 11 = omega arith in
    record {
      texts = ap (map text_in) lines;
      size = ap (sum_by f) lines ∙ sum_by-cons f line rest ∙ omega arith;
      last = ap (fold g before) lines;
      rest = ap (λ k. drop k bytes) place;
    }

pub no_texts : (before : List ℕ) → texts_after before [] ≡ []
unfolding texts_after
no_texts before = ap (map text_in) (ends_none before [] (lines_from_end []))

pub no_length : (before : List ℕ) → length_after before [] ≡ 0
unfolding length_after
no_length before = let f : List ℕ → ℕ = λ l. length l + 1 in ap (sum_by f) (ends_none before [] (lines_from_end []))

pub no_last_sum : (before : List ℕ) → last_sum_after before [] ≡ before
unfolding last_sum_after
no_last_sum before = let g : List ℕ → List ℕ → List ℕ = λ sum l. sum_in l in ap (fold g before) (ends_none before [] (lines_from_end []))

-- the same, of a reader that knows the parts
pub reads_parts : (before bytes text sum left : List ℕ) (n : ℕ) → n < length bytes → raw_lines bytes ≡ take n bytes ∷ raw_lines (drop (n + 1) bytes) → is_whole before (take n bytes) ≡ true
    → text ≡ text_in (take n bytes) → sum ≡ sum_in (take n bytes) → left ≡ drop (n + 1) bytes → ReadsLine before bytes text sum left
reads_parts before bytes text sum left n within first whole is_text is_sum is_left =
    let P : List ℕ → Type 0 = λ t. ReadsLine before bytes t sum left in
    let Q : List ℕ → Type 0 = λ s. ReadsLine before bytes (text_in (take n bytes)) s left in
    let R : List ℕ → Type 0 = λ l. ReadsLine before bytes (text_in (take n bytes)) (sum_in (take n bytes)) l in
    subst P (sym is_text) (subst Q (sym is_sum) (subst R (sym is_left) (reads_line before bytes n within first whole)))

-- what holds in any case holds of `None`
pub in_any_case : {X : Type 0} (found : Option X) (P : Type 0) → P → IfNone found P
in_any_case None P is = is
in_any_case (Some x) P is = tt
