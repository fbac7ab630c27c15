-- How the lines of a file are counted.
use Rattle.std.proofs.Common.{◌≡◌, ℕ, ◌+◌, ◌<◌, ◌≤◌, true, false, Bool, List, [], ◌∷◌, length, take, drop, refl, sym, ◌∙◌, ap, subst, arith}
use Rattle.std.specs.Prelude.{fold, if◌then◌else◌}
use mir.Val.{bool_byte}
use Rattle.std.specs.List.{count_by}
use Rattle.std.proofs.lemmas.List.Sums.{sum_by-cons}
use Rattle.tg_keep.specs.Closed.{last_text}
use Rattle.tg_keep.specs.Lines.{begins_in, first_sum, is_whole, length_after, raw_lines, sum_in, whole_from, whole_lines}
use Rattle.tg_keep.specs.Reports.{ReadsWholeLine, batches_in, file_lines, last_line}
use Rattle.tg_keep.proofs.Reading.{reads_line, whole_from_whole}
use Rattle.tg_keep.proofs.Scanning.{Skips, no_more_bytes, skips_none}

reads_first : (before bytes : List ℕ) (n : ℕ) → n < length bytes → raw_lines bytes ≡ take n bytes ∷ raw_lines (drop (n + 1) bytes) → is_whole before (take n bytes) ≡ true
    → ReadsWholeLine before bytes (take n bytes) (begins_in (take n bytes)) (sum_in (take n bytes)) (drop (n + 1) bytes)
reads_first before bytes n within first whole = record {
  lines = ap (whole_from before) first ∙ whole_from_whole before (take n bytes) (raw_lines (drop (n + 1) bytes)) whole;
  begins = refl;
  reads = reads_line before bytes n within first whole;
}

-- the same, of a reader that knows the parts
pub reads_whole : (before bytes sum left : List ℕ) (begun : Bool) (n : ℕ) → n < length bytes → raw_lines bytes ≡ take n bytes ∷ raw_lines (drop (n + 1) bytes) → is_whole before (take n bytes) ≡ true
    → sum ≡ sum_in (take n bytes) → begun ≡ begins_in (take n bytes) → left ≡ drop (n + 1) bytes → ReadsWholeLine before bytes (take n bytes) begun sum left
reads_whole before bytes sum left begun n within first whole is_sum is_begun is_left =
    let P : Bool → Type 0 = λ b. ReadsWholeLine before bytes (take n bytes) b sum left in
    let Q : List ℕ → Type 0 = λ s. ReadsWholeLine before bytes (take n bytes) (begins_in (take n bytes)) s left in
    let R : List ℕ → Type 0 = λ l. ReadsWholeLine before bytes (take n bytes) (begins_in (take n bytes)) (sum_in (take n bytes)) l in
    subst P (sym is_begun) (subst Q (sym is_sum) (subst R (sym is_left) (reads_first before bytes n within first whole)))

-- So many batches of a file were passed, and this line last.
pub record Tallies (file : List ℕ) (batches : ℕ) (seen sum left : List ℕ) : Type 0 where
  pub marks : batches_in file ≡ batches + count_by begins_in (whole_lines sum left)
  pub line : last_line file ≡ fold (λ last text. text) seen (whole_lines sum left)

-- the reader begins with all bytes of the file
module _ (file sum bytes : List ℕ) (same : bytes ≡ file) (first : sum ≡ first_sum) where
  pub skips_first : Skips first_sum file 0 sum bytes
  skips_first =
      let P : List ℕ → Type 0 = λ s. Skips first_sum file 0 s bytes in
      let Q : List ℕ → Type 0 = λ l. Skips first_sum file 0 first_sum l in
      subst P (sym first) (subst Q (sym same) (skips_none first_sum file))

  same_lines : file_lines file ≡ whole_lines sum bytes
  same_lines = ap (λ s. whole_lines s file) (sym first) ∙ ap (whole_lines sum) (sym same)

  pub tallies_first : Tallies file 0 [] sum bytes
  tallies_first = record {
    marks = omega (arith, ap (count_by begins_in) same_lines);
    line = ap last_text same_lines;
  }

one_more : (begins : List ℕ → Bool) (line : List ℕ) (lines : List (List ℕ)) → count_by begins (line ∷ lines) ≡ (if begins line then 1 else 0) + count_by begins lines
one_more begins line lines = let f : List ℕ → ℕ = λ l. if begins l then 1 else 0 in sum_by-cons f line lines

byte_of : (begun : Bool) → bool_byte begun ≡ (if begun then 1 else 0)
byte_of true = refl
byte_of false = refl

pub tallies_more : (file : List ℕ) (batches one : ℕ) (seen last left line next after : List ℕ) (begun : Bool) → Tallies file batches seen last left → ReadsWholeLine last left line begun next after
    → one ≡ bool_byte begun → Tallies file (batches + one) line next after
tallies_more file batches one seen last left line next after begun so_far reads is =
    let step : count_by begins_in (whole_lines last left) ≡ (if begins_in line then 1 else 0) + count_by begins_in (whole_lines next after)
    = ap (count_by begins_in) reads.lines ∙ one_more begins_in line (whole_lines next after) in
    let ones : one ≡ (if begins_in line then 1 else 0) = is ∙ byte_of begun ∙ ap (λ b. if b then 1 else 0) reads.begins in
    record {
      marks = omega (arith, so_far.marks, step, ones);
      line = so_far.line ∙ ap (fold (λ last text. text) seen) reads.lines;
    }

pub all_tallied : (file : List ℕ) (batches : ℕ) (seen last left : List ℕ) → Tallies file batches seen last left → whole_lines last left ≡ [] → batches ≡ batches_in file
all_tallied file batches seen last left tallies none = omega (arith, tallies.marks, ap (count_by begins_in) none)

pub last_tallied : (file : List ℕ) (batches : ℕ) (seen last left : List ℕ) → Tallies file batches seen last left → whole_lines last left ≡ [] → seen ≡ last_line file
last_tallied file batches seen last left tallies none = sym (tallies.line ∙ ap (fold (λ last text. text) seen) none)

-- there are no more batches than lines
pub fewer_still : (batches one count : ℕ) (begun : Bool) → batches ≤ count → one ≡ bool_byte begun → batches + one ≤ count + 1
fewer_still batches one count true fewer is = omega (arith, fewer, is)
fewer_still batches one count false fewer is = omega (arith, fewer, is)

-- the lines of a file and what is left after them are all of its bytes
pub all_sized : (file : List ℕ) (count : ℕ) (last left : List ℕ) → Skips first_sum file count last left → whole_lines last left ≡ [] → length left + length_after first_sum file ≡ length file
all_sized file count last left skips none = omega (arith, skips.size, no_more_bytes last left none)
