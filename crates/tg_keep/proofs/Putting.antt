-- What a write of whole lines over zeros leaves, if a crash mixes old and new bytes.
use Rattle.std.proofs.Common.{◌≡◌, ◌⊎◌, inl, inr, ℕ, zero, suc, ◌+◌, ◌-◌, ◌<◌, ◌≤◌, List, [], ◌++◌, length, get_or, take, drop, map, refl, sym, ◌∙◌, ap, subst, arith, append_assoc, length-append}
use Rattle.std.proofs.lemmas.Bool.{cases_lt}
use Rattle.std.proofs.lemmas.List.{append-nil, drop-drop, drop_more, ext_get_or, get_or-drop, get_or-take, get_or_past, length-drop, length-take-le, take-append-drop, take_at}
use Rattle.sqlite_disk.specs.Disk.{Follows, Mixed, Only, Torn}
use Rattle.tg_keep.specs.Lines.{first_sum, file_texts, last_sum_after, length_after, text_in, texts_after, whole_lines}
use Rattle.tg_keep.specs.Fronts.{AddsFront, IsZeroOr}
use Rattle.tg_keep.proofs.Reading.{no_texts, texts_fronts, zero_byte_ends}
use Rattle.tg_keep.proofs.Joined.{AreWhole, last_sum_joined, length_joined, texts_joined}

take_nothing : (n : ℕ) → ◌≡◌ {A = List (List ℕ)} (take n []) []
take_nothing zero = refl
take_nothing (suc n) = refl

-- zeros say nothing
pub zeros_say_nothing : (before bytes : List ℕ) → ((i : ℕ) → get_or bytes i 0 ≡ 0) → texts_after before bytes ≡ []
zeros_say_nothing before bytes zeros =
    let front = texts_fronts before [] bytes (λ i. inl (zeros i)) in
    front.2 ∙ ap (take front.0) (no_texts before) ∙ take_nothing front.0

-- whole lines, and then a zero
pub ends_at_zero : (file : List ℕ) (end : ℕ) → end < length file → get_or file end 0 ≡ 0 → length_after first_sum (take end file) ≡ end → file_texts file ≡ texts_after first_sum (take end file)
unfolding texts_after
ends_at_zero file end room blank whole =
    let sum = last_sum_after first_sum (take end file) in
    let lines : AreWhole first_sum (take end file) = whole ∙ sym (length-take-le end file (omega arith)) in
    let rest : texts_after sum (drop end file) ≡ [] =
    ap (λ l. map text_in (whole_lines sum l)) (drop_more file end 0 room) ∙ ap (map text_in) (zero_byte_ends sum [] (drop (end + 1) file) (get_or file end 0) blank) in
    ap file_texts (sym (take-append-drop end file))
    ∙ texts_joined first_sum (take end file) (drop end file) lines
    ∙ ap (λ l. texts_after first_sum (take end file) ++ l) rest
    ∙ append-nil (texts_after first_sum (take end file))

-- a file with whole lines up to `end`, and zeros from there on
module _ (file : List ℕ) (end : ℕ) (within : end ≤ length file) (zeros : (i : ℕ) → end ≤ i → get_or file i 0 ≡ 0) (whole : length_after first_sum (take end file) ≡ end) where
  lines_whole : AreWhole first_sum (take end file)
  lines_whole = whole ∙ sym (length-take-le end file within)

  -- what is read of the lines and of other bytes after them
  read_on : (more : List ℕ) → file_texts (take end file ++ more) ≡ texts_after first_sum (take end file) ++ texts_after (last_sum_after first_sum (take end file)) more
  read_on more = texts_joined first_sum (take end file) more lines_whole

  pub says_its_lines : file_texts file ≡ texts_after first_sum (take end file)
  says_its_lines =
      let rest : texts_after (last_sum_after first_sum (take end file)) (drop end file) ≡ [] =
      zeros_say_nothing (last_sum_after first_sum (take end file)) (drop end file) (λ i. get_or-drop end file i 0 ∙ zeros (end + i) (omega arith)) in
      ap file_texts (sym (take-append-drop end file))
      ∙ read_on (drop end file)
      ∙ ap (λ l. texts_after first_sum (take end file) ++ l) rest
      ∙ append-nil (texts_after first_sum (take end file))

  module _ (bytes c : List ℕ) (fits : end + length bytes < length file) (torn : Torn end (length bytes) file c) where
    pub same_length : length c ≡ length file
    same_length = omega (arith, torn.no_shorter, torn.no_longer)

    same_lines : take end c ≡ take end file
    same_lines =
        ext_get_or 0 (take end c) (take end file)
        (length-take-le end c (omega (arith, same_length)) ∙ sym (length-take-le end file within))
        (λ i lt. let below : i < end = omega (arith, lt, length-take-le end c (omega (arith, same_length))) in
        get_or-take end c i 0 below ∙ torn.below i (omega arith) below ∙ sym (get_or-take end file i 0 below))

    parts : c ≡ take end file ++ drop end c
    parts = sym (take-append-drop end c) ∙ ap (λ l. l ++ drop end c) same_lines

    above_is_zero : (i : ℕ) → length bytes ≤ i → get_or c (end + i) 0 ≡ 0
    above_is_zero i past = elim (cases_lt (end + i) (length file)) [
      | inl lt ↦ torn.above (end + i) lt (omega arith) ∙ zeros (end + i) (omega arith)
      | inr ge ↦ get_or_past c (end + i) 0 (omega (arith, same_length))
    ]

    zero_or : ((i : ℕ) → i < length bytes → (get_or c (end + i) 0 ≡ get_or file (end + i) 0) ⊎ (get_or c (end + i) 0 ≡ get_or bytes i 0)) → IsZeroOr bytes (drop end c)
    zero_or each i = elim (cases_lt i (length bytes)) [
      | inl lt ↦ elim (each i lt) [
        | inl old ↦ inl (get_or-drop end c i 0 ∙ old ∙ zeros (end + i) (omega arith))
        | inr new ↦ inr (get_or-drop end c i 0 ∙ new)
      ]
      | inr ge ↦ inl (get_or-drop end c i 0 ∙ above_is_zero i ge)
    ]

    -- a crash leaves a front of the batch
    pub leaves_a_front : (before : List ℕ) → before ≡ last_sum_after first_sum (take end file) → ((i : ℕ) → i < length bytes → (get_or c (end + i) 0 ≡ get_or file (end + i) 0) ⊎ (get_or c (end + i) 0 ≡ get_or bytes i 0))
        → AddsFront (file_texts file) (texts_after before bytes) (file_texts c)
    leaves_a_front before last each =
        let front = texts_fronts before bytes (drop end c) (zero_or each) in (
          front.0,
          front.1,
          ap file_texts parts
              ∙ read_on (drop end c)
              ∙ ap (λ s. texts_after first_sum (take end file) ++ texts_after s (drop end c)) (sym last)
              ∙ ap (λ l. l ++ texts_after before (drop end c)) (sym says_its_lines)
              ∙ ap (λ l. file_texts file ++ l) front.2,
        )

    -- and if the write is done, all of it
    module _ (holds : (i : ℕ) → i < length bytes → get_or c (end + i) 0 ≡ get_or bytes i 0) where
      batch_in_place : take (length bytes) (drop end c) ≡ bytes
      batch_in_place =
          let long : length bytes ≤ length (drop end c) = omega (arith, same_length, length-drop end c) in
          ext_get_or 0 (take (length bytes) (drop end c)) bytes
          (length-take-le (length bytes) (drop end c) long)
          (λ i lt. let below : i < length bytes = omega (arith, lt, length-take-le (length bytes) (drop end c) long) in
          get_or-take (length bytes) (drop end c) i 0 below ∙ get_or-drop end c i 0 ∙ holds i below)

      pub all_parts : c ≡ (take end file ++ bytes) ++ drop (end + length bytes) c
      all_parts =
          parts
          ∙ ap (λ l. take end file ++ l) (sym (take-append-drop (length bytes) (drop end c)))
          ∙ ap (λ l. take end file ++ (l ++ drop (length bytes) (drop end c))) batch_in_place
          ∙ ap (λ l. take end file ++ (bytes ++ l)) (drop-drop (length bytes) end c)
          ∙ sym (append_assoc (take end file) bytes (drop (end + length bytes) c))

      pub new_lines : take (end + length bytes) c ≡ take end file ++ bytes
      new_lines =
          ap (take (end + length bytes)) all_parts
          ∙ take_at (take end file ++ bytes) (drop (end + length bytes) c) (end + length bytes) (length-append (take end file) bytes ∙ ap (λ n. n + length bytes) (length-take-le end file within))

      pub new_zeros : (i : ℕ) → end + length bytes ≤ i → get_or c i 0 ≡ 0
      new_zeros i past =
          let place : end + (i - end) ≡ i = omega arith in
          ap (λ k. get_or c k 0) (sym place) ∙ above_is_zero (i - end) (omega arith)

      module _ (before : List ℕ) (last : before ≡ last_sum_after first_sum (take end file)) (batch : AreWhole before bytes) where
        pub new_whole : length_after first_sum (take (end + length bytes) c) ≡ end + length bytes
        new_whole =
            ap (length_after first_sum) new_lines
            ∙ length_joined first_sum (take end file) bytes lines_whole
            ∙ ap (λ s. length_after first_sum (take end file) + length_after s bytes) (sym last)
            ∙ ap (λ n. n + length_after before bytes) whole
            ∙ ap (λ n. end + n) batch

        pub new_last : last_sum_after first_sum (take (end + length bytes) c) ≡ last_sum_after before bytes
        new_last =
            ap (last_sum_after first_sum) new_lines
            ∙ last_sum_joined first_sum (take end file) bytes lines_whole
            ∙ ap (λ s. last_sum_after s bytes) (sym last)

-- a write that is done leaves the texts from before and those of the batch
pub puts_all : (file : List ℕ) (end : ℕ) (within : end ≤ length file) (zeros : (i : ℕ) → end ≤ i → get_or file i 0 ≡ 0) (whole : length_after first_sum (take end file) ≡ end)
    (bytes c : List ℕ) (fits : end + length bytes < length file) (torn : Torn end (length bytes) file c) (holds : (i : ℕ) → i < length bytes → get_or c (end + i) 0 ≡ get_or bytes i 0)
    (before : List ℕ) (last : before ≡ last_sum_after first_sum (take end file)) (batch : AreWhole before bytes) → file_texts c ≡ file_texts file ++ texts_after before bytes
puts_all file end within zeros whole bytes c fits torn holds before last batch =
    let inside : end + length bytes ≤ length c = omega (arith, same_length file end within zeros whole bytes c fits torn) in
    says_its_lines c (end + length bytes) inside
    (new_zeros file end within zeros whole bytes c fits torn holds)
    (new_whole file end within zeros whole bytes c fits torn holds before last batch)
    ∙ ap (texts_after first_sum) (new_lines file end within zeros whole bytes c fits torn holds)
    ∙ read_on file end within zeros whole bytes
    ∙ ap (λ s. texts_after first_sum (take end file) ++ texts_after s bytes) (sym last)
    ∙ ap (λ l. l ++ texts_after before bytes) (sym (says_its_lines file end within zeros whole))

-- what a crash may leave once the write was begun
pub may_leave_front : (file : List ℕ) (end : ℕ) (within : end ≤ length file) (zeros : (i : ℕ) → end ≤ i → get_or file i 0 ≡ 0) (whole : length_after first_sum (take end file) ≡ end)
    (bytes before : List ℕ) (fits : end + length bytes < length file) (last : before ≡ last_sum_after first_sum (take end file))
    (old new : List ℕ → Type 0) → Only file old → Follows (Mixed end bytes) old new → (c : List ℕ) → new c → AddsFront (file_texts file) (texts_after before bytes) (file_texts c)
may_leave_front file end within zeros whole bytes before fits last old new only follows c left =
    let from = follows c left in
    let P : List ℕ → Type 0 = λ f. Mixed end bytes f c in
    let mixed : Mixed end bytes file c = subst P (only from.0 from.1) from.2 in
    leaves_a_front file end within zeros whole bytes c fits mixed.torn before last (λ i lt. mixed.each i lt (omega arith))
