-- When the bytes of a file are those of a closed file.
use Rattle.std.proofs.Common.{◌≡◌, inl, inr, ℕ, ◌+◌, ◌<◌, ◌≤◌, true, false, ◌&&◌, ◌==◌, List, [], ◌∷◌, ◌++◌, length, get_or, take, drop, refl, sym, ◌∙◌, ap, subst, arith, length-append}
use Rattle.std.specs.Prelude.{sum_by}
use Rattle.std.proofs.lemmas.Bool.{cases_eq, cases_Bool}
use Rattle.std.proofs.lemmas.Bool.Decides.{nat_tests}
use Rattle.std.proofs.lemmas.List.{drop_more, get_or-drop, length-drop, length-take-le, take-append-drop}
use Rattle.std.proofs.lemmas.List.Sums.{sum_by-cons}
use Rattle.sqlite_disk.specs.Disk.{Follows, Mixed, Only}
use Rattle.tg_keep.specs.Closed.{is_closed, last_text}
use Rattle.tg_keep.specs.Files.{IsSynced}
use Rattle.tg_keep.specs.Lines.{first_sum, is_mark, is_whole, last_sum_after, length_after, lines_from, sum_in, file_texts, whole_from, whole_lines}
use Rattle.tg_keep.specs.Zeros.{KeepsBelow}
use Rattle.tg_keep.specs.declared.file.LineFile.{LineFile}
use Rattle.tg_keep.proofs.Joined.{AreWhole, length_joined}
use Rattle.tg_keep.proofs.Reading.{lines_from_feed, lines_from_other, whole_from_other, whole_from_whole, zero_byte_ends}

abbrev line_length : List ℕ → ℕ
line_length line = length line + 1

-- whole lines end before a zero
before_zero : (before line front rest : List ℕ) → sum_by line_length (whole_from before (lines_from line (front ++ 0 ∷ rest))) ≤ length line + length front
before_zero before line [] rest = omega (arith, ap (sum_by line_length) (zero_byte_ends before line rest 0 refl))
before_zero before line (byte ∷ front) rest =
    let more = front ++ 0 ∷ rest in
    elim (cases_eq byte 10) [
      | inl feed ↦ elim (cases_Bool (is_whole before line)) [
        | inl whole ↦
            let lines = whole_from (sum_in line) (lines_from [] more) in
            let step : whole_from before (lines_from line (byte ∷ more)) ≡ line ∷ lines =
            ap (whole_from before) (lines_from_feed line byte more feed) ∙ whole_from_whole before line (lines_from [] more) whole in
            omega (arith, ap (sum_by line_length) step, sum_by-cons line_length line lines, before_zero (sum_in line) [] front rest)
        | inr other ↦
            let none : whole_from before (lines_from line (byte ∷ more)) ≡ [] =
            ap (whole_from before) (lines_from_feed line byte more feed) ∙ whole_from_other before line (lines_from [] more) other in
            omega (arith, ap (sum_by line_length) none)
      ]
      | inr other ↦
          let step : lines_from line (byte ∷ more) ≡ lines_from (line ++ byte ∷ []) more = lines_from_other line byte more other in
          omega (arith, ap (λ ls. sum_by line_length (whole_from before ls)) step, before_zero before (line ++ byte ∷ []) front rest, length-append line (byte ∷ []))
    ]

pub lines_before_zero : (before bytes : List ℕ) (i : ℕ) → i < length bytes → get_or bytes i 0 ≡ 0 → length_after before bytes ≤ i
unfolding length_after
lines_before_zero before bytes i within blank =
    let parts : bytes ≡ take i bytes ++ 0 ∷ drop (i + 1) bytes =
    sym (take-append-drop i bytes) ∙ ap (λ (l : List ℕ). take i bytes ++ l) (drop_more bytes i 0 within) ∙ ap (λ b. take i bytes ++ b ∷ drop (i + 1) bytes) blank in
    omega (arith, ap (λ l. sum_by line_length (whole_lines before l)) parts, before_zero before [] (take i bytes) (drop (i + 1) bytes), length-take-le i bytes (omega arith))

less_is_other : (m k : ℕ) → m < k → (m == k) ≡ false
less_is_other m k lt = grind (arith, nat_tests)

self_eq : (x : ℕ) → (x == x) ≡ true
self_eq x = grind (arith, nat_tests)

-- a file with a zero isn't closed
pub open_by_zero : (c : List ℕ) (i : ℕ) → i < length c → get_or c i 0 ≡ 0 → is_closed c ≡ false
open_by_zero c i within blank =
    ap (λ b. b && is_mark (last_text (file_texts c))) (less_is_other (length_after first_sum c) (length c) (omega (arith, within, lines_before_zero first_sum c i within blank)))

-- nor is what a crash leaves of a write over zeros that leaves one of them
pub write_open : (file : List ℕ) (end : ℕ) (bytes : List ℕ) → ((i : ℕ) → end ≤ i → get_or file i 0 ≡ 0) → end + length bytes < length file
    → (old new : List ℕ → Type 0) → Only file old → Follows (Mixed end bytes) old new → (c : List ℕ) → new c → is_closed c ≡ false
write_open file end bytes zeros fits old new only follows c left =
    let from = follows c left in
    let P : List ℕ → Type 0 = λ f. Mixed end bytes f c in
    let mixed : Mixed end bytes file c = subst P (only from.0 from.1) from.2 in
    let at = end + length bytes in
    open_by_zero c at (omega (arith, fits, mixed.torn.no_shorter)) (mixed.torn.above at fits (omega arith) ∙ zeros at (omega arith))

-- the file has a zero, and a crash leaves it as it is, or changes what comes after it
module _ {D : Type 0} (seen : D → List ℕ) (may_leave : D → List ℕ → Type 0) (file : LineFile D) (synced : IsSynced seen may_leave file) (room : file.end < file.length) where
  blank : get_or (seen file.disk) file.end 0 ≡ 0
  blank = synced.zeros file.end (omega arith)

  pub inside : file.end < length (seen file.disk)
  inside = omega (arith, room, synced.size)

  pub synced_open : (c : List ℕ) → may_leave file.disk c → is_closed c ≡ false
  synced_open c left = ap is_closed (synced.durable c left) ∙ open_by_zero (seen file.disk) file.end inside blank

  pub laying_open : (new : List ℕ → Type 0) → Follows (KeepsBelow file.length) (may_leave file.disk) new → (c : List ℕ) → new c → is_closed c ≡ false
  laying_open new follows c left =
      let from = follows c left in
      let P : List ℕ → Type 0 = λ f. KeepsBelow file.length f c in
      let kept : KeepsBelow file.length (seen file.disk) c = subst P (synced.durable from.0 from.1) from.2 in
      open_by_zero c file.end (omega (arith, inside, kept.no_shorter)) (kept.below file.end inside room ∙ blank)

  -- the whole lines end where the file says it
  pub lines_end_here : file.end ≡ length_after first_sum (seen file.disk)
  lines_end_here =
      let bytes = seen file.disk in
      let front = take file.end bytes in
      let rest = drop file.end bytes in
      let sum = last_sum_after first_sum front in
      let lines : AreWhole first_sum front = synced.whole ∙ sym (length-take-le file.end bytes (omega (arith, inside))) in
      let place : file.end + 0 ≡ file.end = omega arith in
      let none : length_after sum rest ≤ 0 =
      lines_before_zero sum rest 0 (omega (arith, inside, length-drop file.end bytes)) (get_or-drop file.end bytes 0 0 ∙ ap (λ i. get_or bytes i 0) place ∙ blank) in
      omega (arith, ap (length_after first_sum) (take-append-drop file.end bytes), length_joined first_sum front rest lines, synced.whole, none)

-- a file that was cut right after its lines, of which the last is a mark
pub cut_is_closed : (file : List ℕ) (end : ℕ) (mark : List ℕ) → end ≤ length file → length_after first_sum (take end file) ≡ end → last_text (file_texts (take end file)) ≡ mark → is_mark mark ≡ true
    → is_closed (take end file) ≡ true
cut_is_closed file end mark within whole last is =
    let closing = is_mark (last_text (file_texts (take end file))) in
    ap (λ n. (n == length (take end file)) && closing) whole
    ∙ ap (λ n. (end == n) && closing) (length-take-le end file within)
    ∙ ap (λ b. b && closing) (self_eq end)
    ∙ ap (λ (t : List ℕ). is_mark t) last
    ∙ is
