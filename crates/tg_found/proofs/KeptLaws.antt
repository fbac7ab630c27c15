-- How the lines of a kept file are made the text of a history, and how one of them is found again.
use Rattle.std.proofs.Common.{◌≡◌, ℕ, ◌+◌, ◌-◌, ◌≤◌, Bool, true, false, List, [], ◌∷◌, ◌++◌, length, take, drop, Option, Some, None, refl, sym, ◌∙◌, ap, arith}
use Rattle.std.specs.Prelude.{IfSome, IfNone, if◌then◌else◌, sum_by}
use Rattle.std.specs.Borrow.{Bor}
use mir.Val.{bool_byte}
use Rattle.std.specs.List.{count_by, flat_map}
use Rattle.std.proofs.Math.Seq.{take-append_seam}
use Rattle.std.proofs.lemmas.List.{append-nil, append_assoc, length-append, length-map, length-take}
use Rattle.std.proofs.lemmas.List.Concat.{flat_map-append}
use Rattle.std.proofs.lemmas.List.Sums.{sum_by-append, sum_by-cons}
use Rattle.tg_keep.specs.Lines.{file_texts, first_sum, length_after, text_in, texts_after, whole_lines}
use Rattle.tg_keep.specs.Reads.{ReadsLine}
use Rattle.tg_keep.specs.declared.reader.LineReader.{LineReader}
use Rattle.tg_keep.proofs.Cutting.{lines_end_at}
use Rattle.tg_keep.proofs.Scanning.{left_shorter, no_more_texts}
use Rattle.tg_found.specs.Kept.{IsLineAt, begins_with_digit, ended_line, entries_in, later_texts, length_in_file}

-- ---- the text

pub longer_text : (text : List ℕ) (done : List (List ℕ)) (line : List ℕ) → (text ++ flat_map ended_line done) ++ ended_line line ≡ text ++ flat_map ended_line (done ++ line ∷ [])
longer_text text done line =
    append_assoc text (flat_map ended_line done) (ended_line line)
    ∙ ap (λ (l : List ℕ). text ++ (flat_map ended_line done ++ l)) (sym (append-nil (ended_line line)))
    ∙ ap (λ (l : List ℕ). text ++ l) (sym (flat_map-append ended_line done (line ∷ [])))

byte_of : (is : Bool) → bool_byte is ≡ (if is then 1 else 0)
byte_of true = refl
byte_of false = refl

-- one line more is counted if it has what is counted
pub counted_more : (test : List ℕ → Bool) (done : List (List ℕ)) (line : List ℕ) (one : ℕ) (is : Bool) → is ≡ test line → one ≡ bool_byte is → count_by test (done ++ line ∷ []) ≡ count_by test done + one
counted_more test done line one is same number =
    let f : List ℕ → ℕ = λ l. if test l then 1 else 0 in
    let ones : one ≡ (if test line then 1 else 0) = number ∙ byte_of is ∙ ap (λ (b : Bool). if b then 1 else 0) same in
    omega (arith, sum_by-append f done (line ∷ []), sum_by-cons f line [], ones)

at_most_one : (is : Bool) → bool_byte is ≤ 1
at_most_one true = omega arith
at_most_one false = omega arith

-- These later lines of a file were added to a text.
pub record Gathers (file first text : List ℕ) (entries : ℕ) (sum left : List ℕ) : Type 0 where
  pub done : List (List ℕ)
  pub texts : later_texts file ≡ done ++ texts_after sum left
  pub text_is : text ≡ first ++ flat_map ended_line done
  pub entries_are : entries ≡ count_by begins_with_digit done
  pub few : entries + length left ≤ length file

-- the first line was passed, if there was one
pub passes_first : (file : List ℕ) (old new : LineReader) (found : Option (Bor (List ℕ))) → old.left.now ≡ file → old.sum.digits ≡ first_sum →
    IfSome found (λ text. ReadsLine old.sum.digits old.left.now text.now new.sum.digits new.left.now) → IfNone found (whole_lines old.sum.digits old.left.now ≡ []) → IfNone found (new ≡ old) →
    later_texts file ≡ texts_after new.sum.digits new.left.now
passes_first file old new (Some text) same first reads none unchanged =
    let texts : file_texts file ≡ text.now ∷ texts_after new.sum.digits new.left.now = sym (ap (texts_after first_sum) same) ∙ sym (ap (λ s. texts_after s old.left.now) first) ∙ reads.texts in
    ap (λ (l : List (List ℕ)). drop 1 l) texts
passes_first file old new None same first reads none unchanged =
    let nothing : texts_after old.sum.digits old.left.now ≡ [] = no_more_texts old.sum.digits old.left.now none in
    let texts : file_texts file ≡ [] = sym (ap (texts_after first_sum) same) ∙ sym (ap (λ s. texts_after s old.left.now) first) ∙ nothing in
    ap (λ (l : List (List ℕ)). drop 1 l) texts ∙ sym (ap (λ (r : LineReader). texts_after r.sum.digits r.left.now) unchanged ∙ nothing)

pub no_longer : (file : List ℕ) (old new : LineReader) (found : Option (Bor (List ℕ))) → old.left.now ≡ file →
    IfSome found (λ text. ReadsLine old.sum.digits old.left.now text.now new.sum.digits new.left.now) → IfNone found (new ≡ old) → length new.left.now ≤ length file
no_longer file old new (Some text) same reads unchanged = omega (arith, left_shorter old.sum.digits old.left.now text.now new.sum.digits new.left.now reads, ap length same)
no_longer file old new None same reads unchanged = omega (arith, ap (λ (r : LineReader). length r.left.now) unchanged, ap length same)

pub gathers_none : (file first sum left : List ℕ) → later_texts file ≡ texts_after sum left → length left ≤ length file → Gathers file first first 0 sum left
gathers_none file first sum left texts fits = record {
  done = [];
  texts = texts;
  text_is = sym (append-nil first);
  entries_are = refl;
  few = omega (arith, fits);
}

pub gathers_more : (file first text : List ℕ) (entries : ℕ) (sum left line next after longer : List ℕ) (one : ℕ) (is : Bool) → Gathers file first text entries sum left → ReadsLine sum left line next after →
    longer ≡ text ++ ended_line line → is ≡ begins_with_digit line → one ≡ bool_byte is → Gathers file first longer (entries + one) next after
gathers_more file first text entries sum left line next after longer one is so_far reads added same number =
    let done = so_far.done in
    record {
      done = done ++ line ∷ [];
      texts = so_far.texts ∙ ap (λ (l : List (List ℕ)). done ++ l) reads.texts ∙ sym (append_assoc done (line ∷ []) (texts_after next after));
      text_is = added ∙ ap (λ (t : List ℕ). t ++ ended_line line) so_far.text_is ∙ longer_text first done line;
      entries_are = omega (arith, so_far.entries_are, counted_more begins_with_digit done line one is same number);
      few = omega (arith, so_far.few, left_shorter sum left line next after reads, number, at_most_one is);
    }

-- all later lines were added
module _ (file first text : List ℕ) (entries : ℕ) (sum left : List ℕ) (gathers : Gathers file first text entries sum left) (none : whole_lines sum left ≡ []) where
  all_done : later_texts file ≡ gathers.done
  all_done = gathers.texts ∙ ap (λ (l : List (List ℕ)). gathers.done ++ l) (no_more_texts sum left none) ∙ append-nil gathers.done

  pub all_gathered : text ≡ first ++ flat_map ended_line (later_texts file)
  all_gathered = gathers.text_is ∙ ap (λ (l : List (List ℕ)). first ++ flat_map ended_line l) (sym all_done)

  pub all_counted : entries ≡ entries_in file
  all_counted = gathers.entries_are ∙ ap (count_by begins_with_digit) (sym all_done)

-- ---- the place of a line

pub one_longer : (done : List (List ℕ)) (line : List ℕ) → sum_by length_in_file (done ++ line ∷ []) ≡ sum_by length_in_file done + (length line + 11)
one_longer done line = omega (arith, sum_by-append length_in_file done (line ∷ []), sum_by-cons length_in_file line [])

-- These lines of a file were passed, and the next one begins at this byte.
pub record Passes (file : List ℕ) (lines byte : ℕ) (sum left : List ℕ) : Type 0 where
  pub done : List (List ℕ)
  pub texts : file_texts file ≡ done ++ texts_after sum left
  pub number : lines ≡ length done
  pub place : byte ≡ sum_by length_in_file done
  pub size : byte + length left ≡ length file
  pub few : lines ≤ byte

pub passes_none : (file sum left : List ℕ) → left ≡ file → sum ≡ first_sum → Passes file 0 0 sum left
passes_none file sum left same first = record {
  done = [];
  texts = sym (ap (texts_after first_sum) same) ∙ sym (ap (λ s. texts_after s left) first);
  number = refl;
  place = refl;
  size = omega (arith, ap length same);
  few = omega arith;
}

pub passes_more : (file : List ℕ) (lines byte moved : ℕ) (sum left line next after : List ℕ) → Passes file lines byte sum left → ReadsLine sum left line next after → moved ≡ length file - length after →
    Passes file (lines + 1) moved next after
passes_more file lines byte moved sum left line next after so_far reads is =
    let done = so_far.done in
    let shorter = left_shorter sum left line next after reads in
    record {
      done = done ++ line ∷ [];
      texts = so_far.texts ∙ ap (λ (l : List (List ℕ)). done ++ l) reads.texts ∙ sym (append_assoc done (line ∷ []) (texts_after next after));
      number = omega (arith, so_far.number, length-append done (line ∷ []));
      place = omega (arith, so_far.place, so_far.size, shorter, is, one_longer done line);
      size = omega (arith, so_far.size, shorter, is);
      few = omega (arith, so_far.few, so_far.size, shorter, is);
    }

-- the line after those that were passed is the next one
pub next_at : (file : List ℕ) (lines byte : ℕ) (sum left line next after : List ℕ) → Passes file lines byte sum left → ReadsLine sum left line next after → IsLineAt (lines + 1) byte file
next_at file lines byte sum left line next after so_far reads =
    let done = so_far.done in
    let rest : List (List ℕ) = line ∷ texts_after next after in
    let all : file_texts file ≡ done ++ rest = so_far.texts ∙ ap (λ (l : List (List ℕ)). done ++ l) reads.texts in
    let taken : take (length done) (file_texts file) ≡ done = ap (take (length done)) all ∙ take-append_seam done rest in
    record {
      before = length done;
      number = omega (arith, so_far.number);
      within = omega (arith, ap length all, length-append done rest);
      place = so_far.place ∙ sym (ap (sum_by length_in_file) taken);
    }

pub all_passed : (file : List ℕ) (lines byte : ℕ) (sum left : List ℕ) → Passes file lines byte sum left → whole_lines sum left ≡ [] → lines ≡ length (file_texts file)
all_passed file lines byte sum left so_far none =
    let all : file_texts file ≡ so_far.done = so_far.texts ∙ ap (λ (l : List (List ℕ)). so_far.done ++ l) (no_more_texts sum left none) ∙ append-nil so_far.done in
    omega (arith, so_far.number, ap length all)

-- ---- the end

lines_fit : (lines : List (List ℕ)) → length lines ≤ sum_by (λ line. length line + 1) lines
lines_fit [] = omega arith
lines_fit (line ∷ lines) = let f : List ℕ → ℕ = λ line. length line + 1 in omega (arith, lines_fit lines, sum_by-cons f line lines)

-- a file has no more lines than bytes
pub texts_fit : (file : List ℕ) → length (file_texts file) ≤ length file
unfolding texts_after length_after
texts_fit file =
    omega (arith, length-map (whole_lines first_sum file) text_in, lines_fit (whole_lines first_sum file), (lines_end_at first_sum file (length_after first_sum file) refl).within)

-- whole lines have as many bytes as they are long
pub lines_sized : (file lines : List ℕ) → lines ≡ take (length_after first_sum file) file → length lines ≡ length_after first_sum file
lines_sized file lines is =
    omega (arith, ap length is, length-take (length_after first_sum file) file, (lines_end_at first_sum file (length_after first_sum file) refl).within)
