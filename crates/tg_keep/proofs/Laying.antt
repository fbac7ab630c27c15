-- What zeros after the end of a file leave of its lines.
use Rattle.std.proofs.Common.{◌≡◌, inl, inr, ℕ, ◌+◌, ◌<◌, ◌≤◌, List, [], length, get_or, take, sym, ◌∙◌, ap, subst, arith, refl, ◌-◌}
use Rattle.std.proofs.lemmas.Bool.{cases_lt}
use Rattle.std.proofs.lemmas.List.{ext_get_or, get_or-take, get_or_past, length-take-le}
use Rattle.sqlite_disk.specs.Disk.{Follows, Holds, Only, Torn}
use Rattle.tg_keep.specs.Lines.{first_sum, file_texts, last_sum_after, length_after, texts_after}
use Rattle.tg_keep.specs.Files.{IsSynced}
use Rattle.tg_keep.specs.Zeros.{AddsZeros, KeepsBelow}
use Rattle.tg_keep.specs.declared.file.LineFile.{LineFile}
use Rattle.tg_keep.proofs.Reading.{no_last_sum, no_length}
use Rattle.tg_keep.proofs.Putting.{ends_at_zero, says_its_lines, zeros_say_nothing}

-- no write yet
pub keeps_all : (n : ℕ) (file : List ℕ) → KeepsBelow n file file
keeps_all n file = record { no_shorter = omega arith; below = λ i within low. refl }

-- a write more, at n or after it
pub keeps_on : (n at size : ℕ) (old mid new : List ℕ) → n ≤ at → KeepsBelow n old mid → Torn at size mid new → KeepsBelow n old new
keeps_on n at size old mid new after kept torn = record {
  no_shorter = omega (arith, kept.no_shorter, torn.no_shorter);
  below = λ i within low. torn.below i (omega (arith, kept.no_shorter)) (omega arith) ∙ kept.below i within low;
}

pub follows_on : (n at size : ℕ) (old mid new : List ℕ → Type 0) → n ≤ at → Follows (KeepsBelow n) old mid → Follows (Torn at size) mid new → Follows (KeepsBelow n) old new
follows_on n at size old mid new after kept torn = λ c left.
    let from = torn c left in
    let first = kept from.0 from.1 in
    (first.0, first.1, keeps_on n at size first.0 from.0 c after first.2 from.2)

pub no_zeros : (file : List ℕ) → AddsZeros 0 file file
no_zeros file = record {
  size = omega arith;
  below = λ i within. refl;
  zeros = λ i past. get_or_past file i 0 past;
}

pub more_zeros : (n size at : ℕ) (old mid new page : List ℕ) → at ≡ length old + n → length page ≡ size → 0 < size → ((i : ℕ) → i < size → get_or page i 0 ≡ 0)
    → AddsZeros n old mid → Torn at (length page) mid new → (0 < length page → Holds new at page) → AddsZeros (n + size) old new
more_zeros n size at old mid new page here is some blank so_far torn holds =
    let held = holds (omega (arith, is, some)) in
    let long : length new ≡ length old + (n + size) = omega (arith, so_far.size, torn.no_longer, held.within, here, is) in
    record {
      size = long;
      below = λ i within. torn.below i (omega (arith, so_far.size)) (omega (arith, here)) ∙ so_far.below i within;
      zeros = λ i past. elim (cases_lt i at) [
        | inl early ↦ torn.below i (omega (arith, so_far.size, here)) early ∙ so_far.zeros i past
        | inr late ↦ elim (cases_lt i (at + size)) [
          | inl fresh ↦
              let k = i - at in
              let place : at + k ≡ i = omega arith in
              ap (λ j. get_or new j 0) (sym place) ∙ held.each k (omega (arith, is)) ∙ blank k (omega arith)
          | inr over ↦ get_or_past new i 0 (omega (arith, long, here))
        ]
      ];
    }

-- a file with whole lines up to `end`, and zeros from there on, of which one is there
module _ (file : List ℕ) (end : ℕ) (room : end < length file) (zeros : (i : ℕ) → end ≤ i → get_or file i 0 ≡ 0) (whole : length_after first_sum (take end file) ≡ end) where
  pub same_front : (c : List ℕ) → KeepsBelow (length file) file c → take end c ≡ take end file
  same_front c kept =
      let long : length (take end c) ≡ end = length-take-le end c (omega (arith, kept.no_shorter)) in
      ext_get_or 0 (take end c) (take end file) (long ∙ sym (length-take-le end file (omega arith)))
      (λ i lt. let below : i < end = omega (arith, lt, long) in
      get_or-take end c i 0 below ∙ kept.below i (omega arith) (omega arith) ∙ sym (get_or-take end file i 0 below))

  -- what comes after the zeros says nothing
  pub says_the_same : (c : List ℕ) → KeepsBelow (length file) file c → file_texts c ≡ file_texts file
  says_the_same c kept =
      ends_at_zero c end (omega (arith, kept.no_shorter)) (kept.below end room room ∙ zeros end (omega arith))
      (ap (length_after first_sum) (same_front c kept) ∙ whole)
      ∙ ap (texts_after first_sum) (same_front c kept)
      ∙ sym (says_its_lines file end (omega arith) zeros whole)

  pub new_lines_synced : {D : Type 0} (seen : D → List ℕ) (may_leave : D → List ℕ → Type 0) (new : LineFile D) (count : ℕ) → new.end ≡ end → new.length ≡ length file + count
      → new.sum.digits ≡ last_sum_after first_sum (take end file) → AddsZeros count file (seen new.disk) → Only (seen new.disk) (may_leave new.disk) → IsSynced seen may_leave new
  new_lines_synced seen may_leave new count place size sum adds only =
      let c = seen new.disk in
      let kept : KeepsBelow (length file) file c = record { no_shorter = omega (arith, adds.size); below = λ i inside low. adds.below i inside } in
      let same : take new.end c ≡ take end file = ap (λ n. take n c) place ∙ same_front c kept in
      record {
        size = size ∙ sym adds.size;
        whole = ap (length_after first_sum) same ∙ whole ∙ sym place;
        last = sum ∙ sym (ap (last_sum_after first_sum) same);
        zeros = λ i from. elim (cases_lt i (length file)) [
          | inl inside ↦ adds.below i inside ∙ zeros i (omega (arith, from, place))
          | inr past ↦ adds.zeros i past
        ];
        durable = only;
      }

-- zeros were laid after those of a file
module _ {D : Type 0} (seen : D → List ℕ) (may_leave : D → List ℕ → Type 0) (file : LineFile D) (synced : IsSynced seen may_leave file) (room : file.end < file.length) where
  inside : file.end < length (seen file.disk)
  inside = omega (arith, room, synced.size)

  -- whatever a crash leaves after the zeros
  pub laying_crash : (new : List ℕ → Type 0) → Follows (KeepsBelow file.length) (may_leave file.disk) new → (c : List ℕ) → new c → file_texts c ≡ file_texts (seen file.disk)
  laying_crash new follows c left =
      let from = follows c left in
      let P : List ℕ → Type 0 = λ f. KeepsBelow file.length f c in
      let Q : ℕ → Type 0 = λ n. KeepsBelow n (seen file.disk) c in
      says_the_same (seen file.disk) file.end inside synced.zeros synced.whole c (subst Q synced.size (subst P (synced.durable from.0 from.1) from.2))

  pub laid_says : (count : ℕ) (c : List ℕ) → AddsZeros count (seen file.disk) c → file_texts c ≡ file_texts (seen file.disk)
  laid_says count c adds =
      says_the_same (seen file.disk) file.end inside synced.zeros synced.whole c (record { no_shorter = omega (arith, adds.size); below = λ i within low. adds.below i within })

  pub laid_synced : (new : LineFile D) (count : ℕ) → new.end ≡ file.end → new.length ≡ file.length + count → new.sum.digits ≡ file.sum.digits → AddsZeros count (seen file.disk) (seen new.disk)
      → Only (seen new.disk) (may_leave new.disk) → IsSynced seen may_leave new
  laid_synced new count place size sum adds only =
      new_lines_synced (seen file.disk) file.end inside synced.zeros synced.whole seen may_leave new count place (size ∙ ap (λ n. n + count) synced.size) (sum ∙ synced.last) adds only

-- zeros were laid over an empty file
pub empty_synced : {D : Type 0} (seen : D → List ℕ) (may_leave : D → List ℕ → Type 0) (new : LineFile D) (old : List ℕ) (count : ℕ) → old ≡ [] → new.end ≡ 0 → new.length ≡ count → new.sum.digits ≡ first_sum
    → AddsZeros count old (seen new.disk) → Only (seen new.disk) (may_leave new.disk) → IsSynced seen may_leave new
empty_synced seen may_leave new old count empty place size sum adds only =
    let c = seen new.disk in
    let none : take new.end c ≡ [] = ap (λ n. take n c) place in
    record {
      size = omega (arith, size, adds.size, ap length empty);
      whole = ap (length_after first_sum) none ∙ no_length first_sum ∙ sym place;
      last = sum ∙ sym (ap (last_sum_after first_sum) none ∙ no_last_sum first_sum);
      zeros = λ i from. adds.zeros i (omega (arith, ap length empty));
      durable = only;
    }

pub empty_says : (old c : List ℕ) (count : ℕ) → old ≡ [] → AddsZeros count old c → file_texts c ≡ []
empty_says old c count empty adds = zeros_say_nothing first_sum c (λ i. adds.zeros i (omega (arith, ap length empty)))
