-- How the lines of a file are passed, and what comes after them is looked at.
use Rattle.std.proofs.Common.{◌≡◌, ℕ, ◌+◌, ◌-◌, ◌<◌, ◌≤◌, true, false, ◌&&◌, ◌||◌, List, [], ◌∷◌, length, get_or, drop, map, refl, sym, ◌∙◌, ap, arith}
use Rattle.std.specs.Prelude.{sum_by, fold, bytes_eq, codes, Bool, IsTrue, is_ok, Option, Some, None, MatchOption, Result, OnOk, Ok, Err}
use Rattle.std.proofs.lemmas.List.{drop-drop, length-drop, ext_get_or}
use Rattle.sqlite_disk.specs.Disk.{Holds}
use Rattle.tg_keep.specs.Closed.{last_text}
use Rattle.tg_keep.specs.Lines.{begins_in, first_sum, file_texts, is_whole, last_sum_after, length_after, raw_lines, sum_in, text_in, texts_after, whole_lines}
use Rattle.tg_keep.specs.Opened.{has_batch, has_first_text, has_later_batch}
use Rattle.tg_keep.specs.Reads.{ReadsLine}
use Rattle.tg_keep.proofs.Cutting.{lines_end_at}

-- So many whole lines were passed, of these bytes after this sum.
pub record Skips (sum bytes : List ℕ) (count : ℕ) (last left : List ℕ) : Type 0 where
  pub texts : length (texts_after sum bytes) ≡ count + length (texts_after last left)
  pub size : length_after sum bytes + length left ≡ length bytes + length_after last left
  pub sums : last_sum_after sum bytes ≡ last_sum_after last left
  pub rest : left ≡ drop (length bytes - length left) bytes
  pub few : count + length left ≤ length bytes

pub skips_none : (sum bytes : List ℕ) → Skips sum bytes 0 sum bytes
skips_none sum bytes = record {
  texts = omega arith;
  size = omega arith;
  sums = refl;
  rest = let none : 0 ≡ length bytes - length bytes = omega arith in ap (λ n. drop n bytes) none;
  few = omega arith;
}

pub left_shorter : (sum left text next after : List ℕ) → ReadsLine sum left text next after → length after + (length text + 11) ≡ length left
left_shorter sum left text next after reads =
    omega (arith, reads.size, (lines_end_at sum left (length_after sum left) refl).within, ap length reads.rest, length-drop (length text + 11) left)

pub reads_shorter : (sum left text next after : List ℕ) → ReadsLine sum left text next after → length after < length left
reads_shorter sum left text next after reads = omega (arith, left_shorter sum left text next after reads)

pub skips_more : (sum bytes : List ℕ) (count : ℕ) (last left text next after : List ℕ) → Skips sum bytes count last left → ReadsLine last left text next after → Skips sum bytes (count + 1) next after
skips_more sum bytes count last left text next after skips reads =
    let shorter = left_shorter last left text next after reads in
    let place : length bytes - length left + (length text + 11) ≡ length bytes - length after = omega (arith, shorter, skips.few) in
    record {
      texts = omega (arith, skips.texts, ap length reads.texts);
      size = omega (arith, skips.size, reads.size, shorter);
      sums = skips.sums ∙ reads.last;
      rest = reads.rest ∙ ap (λ (l : List ℕ). drop (length text + 11) l) skips.rest ∙ drop-drop (length text + 11) (length bytes - length left) bytes ∙ ap (λ n. drop n bytes) place;
      few = omega (arith, skips.few, shorter);
    }

pub no_more_texts : (last left : List ℕ) → whole_lines last left ≡ [] → texts_after last left ≡ []
unfolding texts_after
no_more_texts last left none = ap (map text_in) none

pub no_more_bytes : (last left : List ℕ) → whole_lines last left ≡ [] → length_after last left ≡ 0
unfolding length_after
no_more_bytes last left none = let f : List ℕ → ℕ = λ line. length line + 1 in ap (sum_by f) none

no_more_sums : (last left : List ℕ) → whole_lines last left ≡ [] → last_sum_after last left ≡ last
unfolding last_sum_after
no_more_sums last left none = let g : List ℕ → List ℕ → List ℕ = λ sum line. sum_in line in ap (fold g last) none

-- all whole lines were passed
module _ (sum bytes : List ℕ) (count : ℕ) (last left : List ℕ) (skips : Skips sum bytes count last left) (none : whole_lines last left ≡ []) where
  pub all_counted : count ≡ length (texts_after sum bytes)
  all_counted = omega (arith, skips.texts, ap length (no_more_texts last left none))

  pub all_within : length_after sum bytes ≤ length bytes
  all_within = (lines_end_at sum bytes (length_after sum bytes) refl).within

  pub all_left : left ≡ drop (length_after sum bytes) bytes
  all_left =
      let place : length bytes - length left ≡ length_after sum bytes = omega (arith, skips.size, skips.few, no_more_bytes last left none) in
      skips.rest ∙ ap (λ n. drop n bytes) place

  pub all_summed : last ≡ last_sum_after sum bytes
  all_summed = sym (skips.sums ∙ no_more_sums last left none)

  pub all_few : count ≤ length bytes
  all_few = omega (arith, skips.few)

-- The texts that were read so far end with this one, if those that are left are added.
abbrev pub ReadsOn : List ℕ → List ℕ → List ℕ → List ℕ → List ℕ → Type 0
ReadsOn sum bytes seen last left = last_text (texts_after sum bytes) ≡ fold (λ last text. text) seen (texts_after last left)

pub reads_on : (sum bytes seen last left text next after : List ℕ) → ReadsOn sum bytes seen last left → ReadsLine last left text next after → ReadsOn sum bytes text next after
reads_on sum bytes seen last left text next after so_far reads = so_far ∙ ap (fold (λ last text. text) seen) reads.texts

pub all_read_on : (sum bytes seen last left : List ℕ) → ReadsOn sum bytes seen last left → whole_lines last left ≡ [] → seen ≡ last_text (texts_after sum bytes)
all_read_on sum bytes seen last left so_far none = sym (so_far ∙ ap (fold (λ last text. text) seen) (no_more_texts last left none))

pub batch_none : (before bytes : List ℕ) → raw_lines bytes ≡ [] → has_batch before (raw_lines bytes) ≡ false
unfolding has_batch
batch_none before bytes none = ap (has_batch before) none

pub batch_found : (before bytes line rest : List ℕ) → raw_lines bytes ≡ line ∷ raw_lines rest → (is_whole before line && begins_in line) ≡ true → has_batch before (raw_lines bytes) ≡ true
unfolding has_batch
batch_found before bytes line rest lines found = ap (has_batch before) lines ∙ ap (λ b. b || has_batch (sum_in line) (raw_lines rest)) found

pub batch_other : (before bytes line rest : List ℕ) → raw_lines bytes ≡ line ∷ raw_lines rest → (is_whole before line && begins_in line) ≡ false → has_batch before (raw_lines bytes) ≡ has_batch (sum_in line) (raw_lines rest)
unfolding has_batch
batch_other before bytes line rest lines other = ap (has_batch before) lines ∙ ap (λ b. b || has_batch (sum_in line) (raw_lines rest)) other

pub later_none : (bytes : List ℕ) → raw_lines bytes ≡ [] → has_later_batch (raw_lines bytes) ≡ false
unfolding has_later_batch
later_none bytes none = ap has_later_batch none

pub later_lines : (bytes line rest : List ℕ) → raw_lines bytes ≡ line ∷ raw_lines rest → has_later_batch (raw_lines bytes) ≡ has_batch (sum_in line) (raw_lines rest)
unfolding has_later_batch
later_lines bytes line rest lines = ap has_later_batch lines

-- all bytes of a file were read
pub all_read : (file bytes : List ℕ) → length bytes ≡ length file → (0 < length bytes → Holds file 0 bytes) → bytes ≡ file
all_read file bytes size holds =
    ext_get_or 0 bytes file size (λ i lt. let place : 0 + i ≡ i = omega arith in
    sym (ap (λ k. get_or file k 0) (sym place) ∙ (holds (omega (arith, lt))).each i lt))

-- a result that is `Ok` is one of a call that leaves the disk usable
pub ok_usable : {T E : Type 0} (result : Result T E) (usable : Bool) (P Q : Type 0) → usable ≡ is_ok result → OnOk result P → (IsTrue usable → P → Q) → OnOk result Q
ok_usable (Ok x) usable P Q is p f = f is p
ok_usable (Err e) usable P Q is p f = tt

-- what a call ensures of `None`, where its result is no `Some`
pub none_of : {X : Type 0} (found : Option X) (P : Type 0) (Q : X → Type 0) → MatchOption found P Q → ((x : X) → found ≡ Some x → ⊥) → P
none_of None P Q is not = is
none_of (Some x) P Q is not = absurd (not x refl)

pub on_ok : {T E : Type 0} (result : Result T E) (P : Type 0) → P → OnOk result P
on_ok (Ok x) P is = is
on_ok (Err e) P is = tt

-- the reader begins with all bytes of the file
module _ (file sum bytes : List ℕ) (same : bytes ≡ file) (first : sum ≡ first_sum) where
  pub begins_first : (text next after : List ℕ) → ReadsLine sum bytes text next after → has_first_text (file_texts file) ≡ bytes_eq text (codes "kovshenul kept 1")
  begins_first text next after reads =
      let texts : file_texts file ≡ text ∷ texts_after next after = sym (ap (texts_after first_sum) same) ∙ sym (ap (λ s. texts_after s bytes) first) ∙ reads.texts in
      ap has_first_text texts

  pub begins_none : whole_lines sum bytes ≡ [] → has_first_text (file_texts file) ≡ false
  begins_none none =
      let texts : file_texts file ≡ [] = sym (ap (texts_after first_sum) same) ∙ sym (ap (λ s. texts_after s bytes) first) ∙ no_more_texts sum bytes none in
      ap has_first_text texts

  pub count_is : length (texts_after sum bytes) ≡ length (file_texts file)
  count_is = ap (λ s. length (texts_after s bytes)) first ∙ ap (λ l. length (texts_after first_sum l)) same

  pub last_is_of : last_text (texts_after sum bytes) ≡ last_text (file_texts file)
  last_is_of = ap (λ s. last_text (texts_after s bytes)) first ∙ ap (λ l. last_text (texts_after first_sum l)) same

  pub size_is : length_after sum bytes ≡ length_after first_sum file
  size_is = ap (λ s. length_after s bytes) first ∙ ap (length_after first_sum) same

  pub sum_is : last_sum_after sum bytes ≡ last_sum_after first_sum file
  sum_is = ap (λ s. last_sum_after s bytes) first ∙ ap (last_sum_after first_sum) same

  -- what is left after the lines
  module _ (left : List ℕ) (within : length_after sum bytes ≤ length bytes) (rest : left ≡ drop (length_after sum bytes) bytes) where
    pub place_is : length file - length left ≡ length_after first_sum file
    place_is = omega (arith, within, size_is, ap length rest, length-drop (length_after sum bytes) bytes, ap length same)

    pub left_is : left ≡ drop (length_after first_sum file) file
    left_is = rest ∙ ap (λ n. drop n bytes) size_is ∙ ap (drop (length_after first_sum file)) same
