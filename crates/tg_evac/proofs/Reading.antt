-- Won cells that are read before they are scanned.
use Rattle.std.proofs.Common.{◌≡◌, ℕ, ◌<◌, ◌≤◌, ◌+◌, ◌-◌, List, [], length, get_or, set, sym, ap, subst, arith, ◌∙◌, ⊎_elim}
use Rattle.std.proofs.lemmas.Bool.{cases_lt}
use Rattle.std.proofs.lemmas.List.{get_or_append_left, get_or-set_same, get_or-set_other, length-append}
use Rattle.tg_space.specs.SpaceList.{SpaceList}
use Rattle.tg_space.specs.Targets.{cell_numbered}
use Rattle.tg_evac.specs.Win.{Win}
use Rattle.tg_evac.specs.Claims.{win_at}
use Rattle.tg_evac.specs.Claimers.{AddsWins, AreRead, Walked}
use Rattle.tg_evac.specs.Inner.Reads.{HasReadAhead}
use Rattle.tg_evac.specs.declared.copies.Ahead.{Ahead}

-- one more row of words that are as they should be
pub more_words : (rows : List (List ℕ)) (i : ℕ) (words : List ℕ) (wanted : ℕ → List ℕ) → i < length rows → ((j : ℕ) → j < i → get_or rows j [] ≡ wanted j) → words ≡ wanted i → (j : ℕ) → j < i + 1 → get_or (set rows i words) j [] ≡ wanted j
more_words rows i words wanted inside before here j below =
    ⊎_elim
    (λ (low : j < i). get_or-set_other rows i j words [] (λ same. omega (arith, low, same)) ∙ before j low)
    (λ (high : i ≤ j).
    let same : i ≡ j = omega (arith, high, below) in
    subst (λ (n : ℕ). get_or (set rows i words) n [] ≡ wanted n) same (get_or-set_same rows i words [] inside ∙ here))
    (cases_lt j i)

-- what was read of the pairs stays right while more are won
module _ (h : SpaceList) {Fixed : Type 0} {reason : Win → Type 0} {a b : Walked Fixed} (adds : AddsWins reason a b) (k count : ℕ) (near : List (List ℕ)) (read : AreRead h a.won k count near) (i : ℕ) (more : i < count) where
  inside : k + i < length a.won
  inside = omega (arith, read.within, more)

  pub still_read : get_or near i [] ≡ cell_numbered h (win_at b.won (k + i)).cell
  still_read =
      read.words i more ∙
      sym (ap (λ (l : List Win). cell_numbered h (win_at l (k + i)).cell) adds.is ∙ ap (λ (w : Win). cell_numbered h w.cell) (get_or_append_left a.won adds.added (win_at [] 0) (k + i) inside))

-- where nothing is read yet
pub has_read_none : (h : SpaceList) (won : List Win) (ahead : Ahead) → ahead.first ≡ 0 → ahead.count ≡ 0 → HasReadAhead h won ahead
has_read_none h won ahead first none = record {
  few = omega (arith, none);
  read = record { within = omega (arith, first, none); words = λ i more. absurd (omega (arith, none, more)) };
}

-- and what was read ahead, too
pub has_read_still : (h : SpaceList) {Fixed : Type 0} {reason : Win → Type 0} {a b : Walked Fixed} → AddsWins reason a b → (ahead : Ahead) → HasReadAhead h a.won ahead → HasReadAhead h b.won ahead
has_read_still h {a = a} {b = b} adds ahead has = record {
  few = has.few;
  read = record {
    within = omega (arith, has.read.within, ap (λ (l : List Win). length l) adds.is ∙ length-append a.won adds.added);
    words = still_read h adds ahead.first ahead.count ahead.words has.read;
  };
}

-- the words of the n-th won cell, which was read ahead
pub read_ahead : (h : SpaceList) (won : List Win) (ahead : Ahead) (n : ℕ) → ahead.first ≤ n → n < ahead.first + ahead.count → HasReadAhead h won ahead → get_or ahead.words (n - ahead.first) [] ≡ cell_numbered h (win_at won n).cell
read_ahead h won ahead n before there has =
    let same : ahead.first + (n - ahead.first) ≡ n = omega (arith, before) in
    has.read.words (n - ahead.first) (omega (arith, before, there)) ∙ ap (λ (k : ℕ). cell_numbered h (win_at won k).cell) same
