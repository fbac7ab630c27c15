-- The numbers of the cells of a heap are their flat numbers.
use Rattle.std.proofs.Common.{◌≡◌, ℕ, zero, suc, ◌+◌, ◌*◌, ◌⊎◌, inl, inr, ◌==◌, Bool, cond, List, [], ◌∷◌, length, map, refl, ap, arith, ◌∙◌, ⊎_elim}
use Rattle.std.specs.List.{All}
use Rattle.std.proofs.lemmas.List.Elements.{All-weaker}
use Rattle.tg_word.specs.declared.Place.{Place}
use Rattle.tg_word.specs.Word.{place_in, rights_in, word_at}
use Rattle.tg_space.specs.SpaceList.{SpaceList, HasCell, flat_of}
use Rattle.tg_space.specs.Numbering.{AreNumbersOf, AreStarts, IsNumbered, NamesNumbered, followed_place, moved_place, number_by, renamed_word}
use Rattle.tg_space.specs.Soundness.{IsPointer, NamesCell}
use Rattle.tg_space.specs.Targets.{moved_word}
use Rattle.tg_space.proofs.Flat.{before_few, blocks_all, flat_inside, length-cells_of}

-- the number of a cell that is there
pub number_is : (starts : List ℕ) (h : SpaceList) → AreStarts starts h → (p : Place) → HasCell h p → number_by starts p ≡ flat_of h p
number_is starts h are p held = ap (λ n. 64 * (n + p.block) + p.cell) (are.1 p.space held.space)

-- so its new place is the same
pub followed_is : (from : ℕ → Bool) (starts : List ℕ) (h : SpaceList) (to : ℕ → Place) → AreStarts starts h → (p : Place) → HasCell h p → followed_place from starts to p ≡ moved_place from h to p
followed_is from starts h to are p held = ap (λ n. cond (from p.space) (to n) p) (number_is starts h are p held)

module _ (h : SpaceList) (starts : List ℕ) (words : ℕ) (numbers : AreNumbersOf h starts words) where
  -- each cell that is there has a number
  pub is_numbered : (p : Place) → HasCell h p → IsNumbered starts words p
  is_numbered p held = record {
    space = let low = held.space in let enough = numbers.before.0 in omega (arith, low, enough);
    inside = let same = number_is starts h numbers.before p held in let inside = flat_inside h numbers.spaces.spaces p held in let whole = numbers.whole in omega (arith, same, inside, whole);
    few = let whole = numbers.whole in omega (arith, whole, length-cells_of h numbers.spaces.spaces, before_few h numbers.spaces (length h), blocks_all h (length h) (omega arith));
  }

  pub are_numbered : (ps : List Place) → All (HasCell h) ps → All (IsNumbered starts words) ps
  are_numbered ps held = All-weaker (HasCell h) (IsNumbered starts words) is_numbered ps held

  -- and so has each cell that words name
  pub names_numbered : (pointers : List ℕ) → All (IsPointer h) pointers → All (NamesNumbered starts words) pointers
  names_numbered pointers are =
      All-weaker (IsPointer h) (NamesNumbered starts words)
      (λ word is. ⊎_elim (λ none. inl none) (λ (names : NamesCell h word). inr (is_numbered (place_in word) names.held)) is) pointers are

-- ---- images

-- a word that names a cell which is there
renamed_is : (from : ℕ → Bool) (h : SpaceList) (starts : List ℕ) (to : ℕ → Place) → AreStarts starts h → (word : ℕ) → IsPointer h word → renamed_word from starts to word ≡ moved_word from h to word
renamed_is from h starts to are word (inl none) = rw none refl
renamed_is from h starts to are word (inr names) =
    ap (λ n. cond (word == 0) 0 (cond (from (place_in word).space) (word_at (rights_in word) (to n)) word)) (number_is starts h are (place_in word) names.held)

pub renamed_are : (from : ℕ → Bool) (h : SpaceList) (starts : List ℕ) (to : ℕ → Place) → AreStarts starts h → (words : List ℕ) → All (IsPointer h) words → map (renamed_word from starts to) words ≡ map (moved_word from h to) words
renamed_are from h starts to are [] pointers = refl
renamed_are from h starts to are (word ∷ words) pointers =
    ap (λ w. w ∷ map (renamed_word from starts to) words) (renamed_is from h starts to are word (pointers zero word (omega arith)))
    ∙ ap (λ ws. moved_word from h to word ∷ ws) (renamed_are from h starts to are words (λ k d low. pointers (suc k) d (omega (arith, low))))
