-- What is left of a file whose end is repaired.
use Rattle.std.proofs.Common.{◌≡◌, inl, inr, ℕ, ◌+◌, ◌<◌, ◌≤◌, List, [], ◌∷◌, ◌++◌, length, get_or, take, drop, map, sym, ◌∙◌, ap, subst, arith}
use Rattle.std.proofs.lemmas.Bool.{cases_eq, cases_lt}
use Rattle.std.proofs.lemmas.List.{append-nil, ext_get_or, get_or-take, get_or_past, length-drop, length-take-le, take-append-drop}
use Rattle.sqlite_disk.specs.Disk.{Cut, Follows, Holds, Mixed, Only, Torn}
use Rattle.tg_keep.specs.Lines.{first_sum, file_texts, last_sum_after, length_after, lines_from, text_in, texts_after, whole_from}
use Rattle.tg_keep.specs.Files.{IsSynced}
use Rattle.tg_keep.specs.Opened.{IsEndedAt}
use Rattle.tg_keep.specs.declared.file.LineFile.{LineFile}
use Rattle.tg_keep.proofs.LineLaws.{short_is_not_whole}
use Rattle.tg_keep.proofs.Reading.{lines_from_end, lines_from_feed, lines_from_other, no_texts, whole_from_end, whole_from_other}
use Rattle.tg_keep.proofs.Joined.{AreWhole, texts_joined}
use Rattle.tg_keep.proofs.Putting.{ends_at_zero}
use Rattle.tg_keep.proofs.Cutting.{length_cut, lines_end_at, sum_cut, texts_cut}

-- one byte is no line
one_byte : (sum : List ℕ) (byte : ℕ) → texts_after sum (byte ∷ []) ≡ []
unfolding texts_after
one_byte sum byte = elim (cases_eq byte 10) [
  | inl feed ↦
      let none : whole_from sum (lines_from [] (byte ∷ [])) ≡ [] =
      ap (whole_from sum) (lines_from_feed [] byte [] feed) ∙ whole_from_other sum [] (lines_from [] []) (short_is_not_whole sum [] (omega arith)) in
      ap (map text_in) none
  | inr other ↦
      let none : whole_from sum (lines_from [] (byte ∷ [])) ≡ [] =
      ap (whole_from sum) (lines_from_other [] byte [] other ∙ lines_from_end (byte ∷ [])) ∙ whole_from_end sum in
      ap (map text_in) none
]

few_bytes : (sum bytes : List ℕ) → length bytes ≤ 1 → texts_after sum bytes ≡ []
few_bytes sum [] few = no_texts sum
few_bytes sum (byte ∷ []) few = one_byte sum byte
few_bytes sum (byte ∷ (next ∷ bytes)) few = absurd (omega arith)

-- The zero after the lines is there.
pub record IsMarked (file : List ℕ) (end : ℕ) (mid : List ℕ) : Type 0 where
  pub room : end < length mid
  pub blank : get_or mid end 0 ≡ 0
  pub below : (i : ℕ) → i < end → get_or mid i 0 ≡ get_or file i 0

module _ (file : List ℕ) (end : ℕ) (is : end ≡ length_after first_sum file) where
  within : end ≤ length file
  within = (lines_end_at first_sum file end is).within

  pub front : (c : List ℕ) → end ≤ length c → ((i : ℕ) → i < end → get_or c i 0 ≡ get_or file i 0) → take end c ≡ take end file
  front c long below =
      let size : length (take end c) ≡ end = length-take-le end c long in
      ext_get_or 0 (take end c) (take end file) (size ∙ sym (length-take-le end file within))
      (λ i lt. let low : i < end = omega (arith, lt, size) in
      get_or-take end c i 0 low ∙ below i low ∙ sym (get_or-take end file i 0 low))

  pub marked_says : (c : List ℕ) → IsMarked file end c → file_texts c ≡ file_texts file
  marked_says c m =
      let same : take end c ≡ take end file = front c (omega (arith, m.room)) m.below in
      ends_at_zero c end m.room m.blank (ap (length_after first_sum) same ∙ length_cut first_sum file end is)
      ∙ ap (texts_after first_sum) same
      ∙ texts_cut first_sum file end is

  -- at most one byte after the lines
  short_says : (c : List ℕ) → end ≤ length c → length c ≤ end + 1 → ((i : ℕ) → i < end → get_or c i 0 ≡ get_or file i 0) → file_texts c ≡ file_texts file
  short_says c long short below =
      let same : take end c ≡ take end file = front c long below in
      let lines : AreWhole first_sum (take end file) = length_cut first_sum file end is ∙ sym (length-take-le end file within) in
      let sum = last_sum_after first_sum (take end file) in
      let none : texts_after sum (drop end c) ≡ [] = few_bytes sum (drop end c) (omega (arith, length-drop end c)) in
      ap file_texts (sym (take-append-drop end c))
      ∙ ap (λ (l : List ℕ). file_texts (l ++ drop end c)) same
      ∙ texts_joined first_sum (take end file) (drop end c) lines
      ∙ ap (λ (l : List (List ℕ)). texts_after first_sum (take end file) ++ l) none
      ∙ append-nil (texts_after first_sum (take end file))
      ∙ texts_cut first_sum file end is

  -- nothing changed
  same_bytes : (c : List ℕ) → Torn end 1 file c → end < length file → get_or c end 0 ≡ get_or file end 0 → c ≡ file
  same_bytes c torn inside old =
      ext_get_or 0 c file (omega (arith, torn.no_shorter, torn.no_longer))
      (λ i lt. let low : i < length file = omega (arith, lt, torn.no_shorter, torn.no_longer) in
      elim (cases_lt i end) [
        | inl front ↦ torn.below i low front
        | inr rest ↦ elim (cases_lt end i) [
          | inl after ↦ torn.above i low (omega arith)
          | inr here ↦ let place : i ≡ end = omega arith in ap (λ k. get_or c k 0) place ∙ old ∙ ap (λ k. get_or file k 0) (sym place)
        ]
      ])

  pub after_write : (c : List ℕ) → Mixed end (0 ∷ []) file c → file_texts c ≡ file_texts file
  after_write c mixed =
      let torn : Torn end 1 file c = mixed.torn in
      let below : (i : ℕ) → i < end → get_or c i 0 ≡ get_or file i 0 = λ i low. torn.below i (omega (arith, within)) low in
      let place : end + 0 ≡ end = omega arith in
      elim (cases_lt end (length file)) [
        | inl inside ↦ elim (mixed.each 0 (omega arith) (omega arith)) [
          | inl old ↦ ap file_texts (same_bytes c torn inside (ap (λ k. get_or c k 0) (sym place) ∙ old ∙ ap (λ k. get_or file k 0) place))
          | inr new ↦ marked_says c (record { room = omega (arith, torn.no_shorter); blank = ap (λ k. get_or c k 0) (sym place) ∙ new; below = below })
        ]
        | inr outside ↦ short_says c (omega (arith, within, torn.no_shorter)) (omega (arith, within, torn.no_longer)) below
      ]

  pub marked : (mid : List ℕ) → Torn end 1 file mid → (0 < 1 → Holds mid end (0 ∷ [])) → IsMarked file end mid
  marked mid torn holds =
      let held = holds (omega arith) in
      let place : end + 0 ≡ end = omega arith in
      record {
        room = omega (arith, held.within);
        blank = ap (λ k. get_or mid k 0) (sym place) ∙ held.each 0 (omega arith);
        below = λ i low. torn.below i (omega (arith, within)) low;
      }

  pub after_cut : (mid c : List ℕ) → IsMarked file end mid → Cut (end + 1) mid c → IsMarked file end c
  after_cut mid c m cut = record {
    room = omega (arith, m.room, cut.no_shorter);
    blank = cut.below end m.room (omega arith) ∙ m.blank;
    below = λ i low. cut.below i (omega (arith, m.room)) (omega arith) ∙ m.below i low;
  }

  pub ended_at : (mid c : List ℕ) → IsMarked file end mid → Cut (end + 1) mid c → length c ≡ end + 1 → IsEndedAt end file c
  ended_at mid c m cut size =
      let d = after_cut mid c m cut in
      record { size = size; below = d.below; ends = d.blank }

  pub write_crash : (old new : List ℕ → Type 0) → Only file old → Follows (Mixed end (0 ∷ [])) old new → (c : List ℕ) → new c → file_texts c ≡ file_texts file
  write_crash old new only follows c left =
      let from = follows c left in
      let P : List ℕ → Type 0 = λ f. Mixed end (0 ∷ []) f c in
      after_write c (subst P (only from.0 from.1) from.2)

  pub cut_crash : (mid : List ℕ) → IsMarked file end mid → (old new : List ℕ → Type 0) → Only mid old → Follows (Cut (end + 1)) old new → (c : List ℕ) → new c → file_texts c ≡ file_texts file
  cut_crash mid m old new only follows c left =
      let from = follows c left in
      let P : List ℕ → Type 0 = λ f. Cut (end + 1) f c in
      marked_says c (after_cut mid c m (subst P (only from.0 from.1) from.2))

  -- the zero after the lines is cut off, too
  pub cut_is_front : (mid c : List ℕ) → IsEndedAt end file mid → Cut end mid c → length c ≡ end → c ≡ take end file
  cut_is_front mid c ended cut size =
      let long : length (take end file) ≡ end = length-take-le end file within in
      ext_get_or 0 c (take end file) (size ∙ sym long)
      (λ i lt. let low : i < end = omega (arith, lt, size) in
      cut.below i (omega (arith, ended.size)) low ∙ ended.below i low ∙ sym (get_or-take end file i 0 low))

  pub cut_end_crash : (mid : List ℕ) → IsEndedAt end file mid → (old new : List ℕ → Type 0) → Only mid old → Follows (Cut end) old new → (c : List ℕ) → new c → file_texts c ≡ file_texts file
  cut_end_crash mid ended old new only follows c left =
      let from = follows c left in
      let P : List ℕ → Type 0 = λ f. Cut end f c in
      let cut : Cut end mid c = subst P (only from.0 from.1) from.2 in
      short_says c (omega (arith, ended.size, cut.no_shorter)) (omega (arith, ended.size, cut.no_longer))
      (λ i low. cut.below i (omega (arith, ended.size)) low ∙ ended.below i low)

  -- the file is ready
  pub ended_synced : {D : Type 0} (seen : D → List ℕ) (may_leave : D → List ℕ → Type 0) (new : LineFile D) → new.end ≡ end → new.length ≡ end + 1 → new.sum.digits ≡ last_sum_after first_sum file
      → IsEndedAt end file (seen new.disk) → Only (seen new.disk) (may_leave new.disk) → IsSynced seen may_leave new
  ended_synced seen may_leave new place size sum ended only =
      let c = seen new.disk in
      let same : take new.end c ≡ take end file = ap (λ n. take n c) place ∙ front c (omega (arith, ended.size)) ended.below in
      record {
        size = size ∙ sym ended.size;
        whole = ap (length_after first_sum) same ∙ length_cut first_sum file end is ∙ sym place;
        last = sum ∙ sym (ap (last_sum_after first_sum) same ∙ sum_cut first_sum file end is);
        zeros = λ i from. elim (cases_lt end i) [
          | inl after ↦ get_or_past c i 0 (omega (arith, ended.size))
          | inr here ↦ let at : i ≡ end = omega (arith, from, place) in ap (λ k. get_or c k 0) at ∙ ended.ends
        ];
        durable = only;
      }

  pub ended_says : (c : List ℕ) → IsEndedAt end file c → file_texts c ≡ file_texts file
  ended_says c ended = marked_says c (record { room = omega (arith, ended.size); blank = ended.ends; below = ended.below })
