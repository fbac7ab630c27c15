-- A mark that ends the lines of a file.
use Rattle.std.proofs.Common.{◌≡◌, ℕ, ◌+◌, ◌≤◌, Bool, true, false, ◌&&◌, List, [], ◌∷◌, length, take, refl, sym, ◌∙◌, ap, arith, length-append}
use Rattle.tg_keep.specs.Closed.{is_closed, last_text}
use Rattle.tg_keep.specs.Files.{IsSynced}
use Rattle.tg_keep.specs.Lines.{is_mark, is_marking, is_text, line_of, said_by, sealed_line, file_texts}
use Rattle.tg_keep.specs.Opened.{HasLinesTo}
use Rattle.tg_keep.specs.declared.file.LineFile.{LineFile}
use Rattle.tg_keep.proofs.Closing.{cut_is_closed, lines_end_here}
use Rattle.tg_keep.proofs.Joined.{AreWhole}
use Rattle.tg_keep.proofs.LineLaws.{length-line_of}
use Rattle.tg_keep.proofs.Putting.{says_its_lines}
use Rattle.tg_keep.proofs.Writing.{own_length}

and_both : (a b : Bool) → (a && b) ≡ true → (a ≡ true) × (b ≡ true)
and_both true b is = (refl, is)
and_both false b is = cc

pub both : (mark : List ℕ) → is_marking mark ≡ true → (is_text mark ≡ true) × (is_mark mark ≡ true)
both mark is = and_both (is_text mark) (is_mark mark) is

pub mark_line_whole : (before mark : List ℕ) → is_text mark ≡ true → AreWhole before (sealed_line before true mark)
mark_line_whole before mark is =
    omega (arith, own_length before mark true is, length-append (line_of before true mark) (10 ∷ []), length-line_of before true mark)

-- the file's lines end where it says it
pub synced_lines : {D : Type 0} (seen : D → List ℕ) (may_leave : D → List ℕ → Type 0) (file : LineFile D) → IsSynced seen may_leave file → file.end ≤ file.length → file.end + 1 ≤ file.length → HasLinesTo seen may_leave file.end file.disk
synced_lines seen may_leave file synced within room = record {
  lines = lines_end_here seen may_leave file synced (omega (arith, room));
  durable = synced.durable;
}

-- the file was cut after its lines
module _ {D : Type 0} (seen : D → List ℕ) (may_leave : D → List ℕ → Type 0) (file : LineFile D) (synced : IsSynced seen may_leave file) (room : file.end + 1 ≤ file.length) where
  within : file.end ≤ length (seen file.disk)
  within = omega (arith, room, synced.size)

  same_texts : file_texts (take file.end (seen file.disk)) ≡ file_texts (seen file.disk)
  same_texts = sym (says_its_lines (seen file.disk) file.end within synced.zeros synced.whole)

  pub cut_says : (new : List ℕ) → new ≡ take file.end (seen file.disk) → said_by (file_texts new) ≡ said_by (file_texts (seen file.disk))
  cut_says new is = ap (λ (l : List ℕ). said_by (file_texts l)) is ∙ ap said_by same_texts

  pub cut_closed : (mark : List ℕ) → last_text (file_texts (seen file.disk)) ≡ mark → is_mark mark ≡ true → (new c : List ℕ) → new ≡ take file.end (seen file.disk) → c ≡ new → is_closed c ≡ true
  cut_closed mark last is new c cut same =
      ap is_closed (same ∙ cut) ∙ cut_is_closed (seen file.disk) file.end mark within synced.whole (ap last_text same_texts ∙ last) is
