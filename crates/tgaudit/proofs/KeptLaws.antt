-- How the lines of a kept file are audited.
use Rattle.std.proofs.Common.{◌≡◌, ℕ, ◌+◌, ◌-◌, ◌≤◌, Bool, List, [], ◌∷◌, ◌++◌, length, take, drop, refl, sym, ◌∙◌, ap, subst, arith}
use Rattle.std.specs.Prelude.{sum_by, Option, Some, IfSome, Result, Err, IfErr}
use mir.Val.{bool_byte}
use Rattle.std.specs.List.{count_by, flat_map}
use Rattle.std.proofs.Math.Seq.{take-append_seam}
use Rattle.std.proofs.lemmas.List.{append-nil, append_assoc, length-append}
use Rattle.std.proofs.lemmas.List.Sums.{sum_by-cons}
use Rattle.tg_entries.specs.Read.{AuditedText, HasRead}
use Rattle.tg_keep.specs.Lines.{file_texts, first_sum, texts_after, whole_lines}
use Rattle.tg_keep.specs.Reads.{ReadsLine}
use Rattle.tg_keep.proofs.Scanning.{left_shorter, no_more_texts}
use Rattle.tg_found.specs.Kept.{IsLineAt, RefusesKept, begins_with_digit, ended_line, entries_in, length_in_file}
use Rattle.tg_found.specs.declared.fault.KeptFault.{KeptFault}
use Rattle.tg_found.specs.declared.fault.KeptFault.TheVariants as fault
use Rattle.tg_found.proofs.KeptLaws.{counted_more, longer_text, one_longer}
use Rattle.tgaudit.specs.Kept.{IsAfterFirst, NamesLine}

-- These lines were audited, of all that came after the first one.
pub record Walks (file : List ℕ) (begun : AuditedText) (sum0 left0 : List ℕ) (lines byte entries : ℕ) (audit : AuditedText) (sum left : List ℕ) : Type 0 where
  pub done : List (List ℕ)
  pub texts : texts_after sum0 left0 ≡ done ++ texts_after sum left
  pub number : lines ≡ length done + 1
  pub entries_are : entries ≡ count_by begins_with_digit done
  pub place : byte + length left0 ≡ length file + sum_by length_in_file done
  pub size : byte + length left ≡ length file
  pub few : lines ≤ byte
  pub read : (text : List ℕ) → HasRead text begun → HasRead (text ++ flat_map ended_line done) audit

pub walks_none : (file : List ℕ) (begun : AuditedText) (sum left : List ℕ) (byte : ℕ) → IsAfterFirst file sum left → byte ≡ length file - length left → Walks file begun sum left 1 byte 0 begun sum left
walks_none file begun sum left byte after is = record {
  done = [];
  texts = refl;
  number = omega arith;
  entries_are = refl;
  place = omega (arith, is, after.size);
  size = omega (arith, is, after.size);
  few = omega (arith, is, after.size);
  read = λ text has. subst (λ t. HasRead t begun) (sym (append-nil text)) has;
}

pub walks_more : (file : List ℕ) (begun : AuditedText) (sum0 left0 : List ℕ) (lines byte entries : ℕ) (audit : AuditedText) (sum left line : List ℕ) (moved one : ℕ) (is_one : Bool) (audited : AuditedText) (next after : List ℕ)
    → Walks file begun sum0 left0 lines byte entries audit sum left → ReadsLine sum left line next after → moved ≡ length file - length after
    → is_one ≡ begins_with_digit line → one ≡ bool_byte is_one → ((text : List ℕ) → HasRead text audit → HasRead (text ++ ended_line line) audited)
    → Walks file begun sum0 left0 (lines + 1) moved (entries + one) audited next after
walks_more file begun sum0 left0 lines byte entries audit sum left line moved one is_one audited next after so_far reads is same counts passed =
    let done = so_far.done in
    let shorter = left_shorter sum left line next after reads in
    record {
      done = done ++ line ∷ [];
      texts = so_far.texts ∙ ap (λ (l : List (List ℕ)). done ++ l) reads.texts ∙ sym (append_assoc done (line ∷ []) (texts_after next after));
      number = omega (arith, so_far.number, length-append done (line ∷ []));
      entries_are = omega (arith, so_far.entries_are, counted_more begins_with_digit done line one is_one same counts);
      place = omega (arith, so_far.place, so_far.size, shorter, is, one_longer done line);
      size = omega (arith, so_far.size, shorter, is);
      few = omega (arith, so_far.few, so_far.size, shorter, is);
      read = λ text has. subst (λ t. HasRead t audited) (longer_text text done line) (passed (text ++ flat_map ended_line done) (so_far.read text has));
    }

-- a line at fault is the one after those that were audited
pub fault_at : (file : List ℕ) (begun : AuditedText) (sum0 left0 : List ℕ) (lines byte entries : ℕ) (audit : AuditedText) (sum left line next after : List ℕ)
    → Walks file begun sum0 left0 lines byte entries audit sum left → IsAfterFirst file sum0 left0 → ReadsLine sum left line next after → IsLineAt (lines + 1) byte file
fault_at file begun sum0 left0 lines byte entries audit sum left line next after so_far first reads =
    let done = so_far.done in
    let rest : List (List ℕ) = line ∷ texts_after next after in
    let before : List (List ℕ) = first.first ∷ done in
    let all : file_texts file ≡ before ++ rest = first.texts ∙ ap (λ (l : List (List ℕ)). first.first ∷ l) (so_far.texts ∙ ap (λ (l : List (List ℕ)). done ++ l) reads.texts) in
    let taken : take (length before) (file_texts file) ≡ before = ap (take (length before)) all ∙ take-append_seam before rest in
    record {
      before = length before;
      number = omega (arith, so_far.number);
      within = omega (arith, ap length all, length-append before rest);
      place = omega (arith, so_far.place, first.size, sum_by-cons length_in_file first.first done) ∙ sym (ap (sum_by length_in_file) taken);
    }

pub fault_named : (file : List ℕ) (number place : ℕ) (why : KeptFault) → IsLineAt number place file → NamesLine number place why → RefusesKept file why
fault_named file number place (fault.File why) at names = absurd names
fault_named file number place (fault.Line line byte why) at names = subst (λ n. IsLineAt n byte file) (sym names.0) (subst (λ b. IsLineAt number b file) (sym names.1) at)
fault_named file number place (fault.NoOpening lines) at names = absurd names

-- all lines were audited
module _ (file : List ℕ) (begun : AuditedText) (sum0 left0 : List ℕ) (lines byte entries : ℕ) (audit : AuditedText) (sum left : List ℕ)
    (walks : Walks file begun sum0 left0 lines byte entries audit sum left) (none : whole_lines sum left ≡ []) where
  all_done : texts_after sum0 left0 ≡ walks.done
  all_done = walks.texts ∙ ap (λ (l : List (List ℕ)). walks.done ++ l) (no_more_texts sum left none) ∙ append-nil walks.done

  pub all_audited : (text : List ℕ) → HasRead text begun → HasRead (text ++ flat_map ended_line (texts_after sum0 left0)) audit
  all_audited text has = subst (λ t. HasRead (text ++ flat_map ended_line t) audit) (sym all_done) (walks.read text has)

  pub all_numbered : IsAfterFirst file sum0 left0 → lines ≡ length (file_texts file)
  all_numbered first = omega (arith, walks.number, ap length first.texts, ap length all_done)

  pub all_entered : IsAfterFirst file sum0 left0 → entries ≡ entries_in file
  all_entered first =
      walks.entries_are ∙ ap (count_by begins_with_digit) (sym all_done)
      ∙ sym (ap (λ (l : List (List ℕ)). count_by begins_with_digit (drop 1 l)) first.texts)

-- the first line of a file was read
pub after_first : (file sum bytes line next left : List ℕ) → bytes ≡ file → sum ≡ first_sum → ReadsLine sum bytes line next left → IsAfterFirst file next left
after_first file sum bytes line next left same first reads = record {
  first = line;
  texts = sym (ap (texts_after first_sum) same) ∙ sym (ap (λ s. texts_after s bytes) first) ∙ reads.texts;
  size = omega (arith, left_shorter sum bytes line next left reads, ap length same);
}

-- an audit that ended with this count
pub is_counted : (ended : Option ℕ) (count : ℕ) (P : ℕ → Type 0) → ended ≡ Some count → IfSome ended P → P count
is_counted ended count P is has = subst (λ e. IfSome e P) is has

pub refused_by : {T : Type 0} (result : Result T KeptFault) (found told : KeptFault) (file : List ℕ) → result ≡ Err found → found ≡ told → RefusesKept file told → IfErr result (RefusesKept file)
refused_by {T} result found told file is same why =
    let P : Result T KeptFault → Type 0 = λ r. IfErr r (RefusesKept file) in
    subst P (sym is) (subst (RefusesKept file) (sym same) why)
