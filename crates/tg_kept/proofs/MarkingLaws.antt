-- The mark of a closed file is the line with the number of entries, without its line feed.
use Rattle.std.proofs.Common.{◌≡◌, ◌≢◌, ◌↔◌, ◌∙◌, ℕ, ◌-◌, true, false, List, length, take, Result, Ok, Err, ap, arith, refl, sym}
use Rattle.std.proofs.lemmas.Bool.{false≢true}
use Rattle.std.specs.Prelude.{IfErr, IsErrOf, codes, decimal, ◌&&◌}
use Rattle.tg_entries.specs.Texts.{end_text}
use Rattle.tg_keep.specs.Lines.{is_mark, is_marking}
use Rattle.tg_keep.specs.declared.fault.FileFault.{FileFault}
use Rattle.tg_keep.specs.declared.fault.FileFault.TheVariants.{BadMark}
use Rattle.tg_kept.specs.Texts.{unended}
use Rattle.tg_kept.proofs.PrintLaws.{printed_both, printed_is_text, printed_number}
use Rattle.tg_kept.proofs.ReadLaws.{count_ends, count_line}
use Rattle.tg_kept.proofs.TextLaws.{unended_line}

marking_count : (count : ℕ) → is_marking (count_line count) ≡ true
marking_count count = ap (λ b. b && is_mark (count_line count)) (printed_is_text (count_line count) (printed_both (codes "entries ") (decimal count) refl (printed_number count)))

pub marking_end : (count : ℕ) (text : List ℕ) → text ≡ end_text count → is_marking (unended text) ≡ true
marking_end count text is = ap (λ (t : List ℕ). is_marking (unended t)) (is ∙ count_ends count) ∙ ap is_marking (unended_line (count_line count)) ∙ marking_count count

-- the front of a text that leaves its last byte out
pub cut_end : (n : ℕ) (text : List ℕ) → n ≡ length text - 1 → take n text ≡ unended text
cut_end n text is = ap (λ (k : ℕ). take k text) is

-- a mark that may be put isn't refused as a bad one
pub no_bad_mark : {T : Type 0} (r : Result T FileFault) (mark : List ℕ) → (IsErrOf r BadMark ↔ (is_marking mark ≡ false)) → is_marking mark ≡ true → IfErr r (λ why. why ≢ BadMark)
no_bad_mark (Ok done) mark bad marking = tt
no_bad_mark (Err why) mark bad marking = λ is. false≢true (sym (bad.0 (ap Err is)) ∙ marking)
