-- The claim of one cell, which is moved.
use Rattle.std.proofs.Common.{◌≡◌, ◌≢◌, ℕ, ◌==◌, ◌<◌, ◌||◌, if◌then◌else◌, Bool, true, false, List, [], ◌∷◌, refl, sym, subst, arith, lit<, ◌∙◌}
use Rattle.std.specs.List.{All, Contains}
use Rattle.std.proofs.lemmas.Bool.Decides.{nat_tests}
use Rattle.std.proofs.lemmas.List.Elements.{All-push}
use Rattle.tg_word.specs.declared.Place.{Place}
use Rattle.tg_word.specs.Word.{place_in, rights_in, word_at}
use Rattle.tg_space.specs.SpaceList.{SpaceList, HasCell, flat_of}
use Rattle.tg_space.specs.Targets.{moved_word, target_in}
use Rattle.tg_evac.specs.Win.{Win}
use Rattle.tg_evac.specs.Claims.{IsClaimOf, IsWinFor, space_for}
use Rattle.tg_evac.specs.Claimers.{AddsWins, Walked}
use Rattle.tg_evac.proofs.Walking.{wins_weaker}

-- a copy goes to Old or to Aged
zero_or_one : (straight : Bool) → (if straight then 0 else 1) < 2
zero_or_one true = lit< tt
zero_or_one false = lit< tt

pub goes_to_two : (straight : Bool) (space : ℕ) → space_for straight space < 2
goes_to_two straight space = zero_or_one (straight || (space == 1))

-- a win of the cell at a place is a claim of that cell
pub claims_one : {Fixed : Type 0} {a b : Walked Fixed} (h : SpaceList) (straight : Bool) (p : Place) (cell space : ℕ) (cells : List ℕ) →
    HasCell h p → cell ≡ flat_of h p → space ≡ space_for straight p.space → cells ≡ flat_of h p ∷ [] → AddsWins (IsWinFor cell space) a b → AddsWins (IsClaimOf h straight cells) a b
claims_one h straight p cell space cells held at to is adds =
    wins_weaker adds (λ (w : Win) win. record {
      one = subst (λ (ns : List ℕ). Contains ns w.cell) (sym is) (0, lit< tt, sym at ∙ sym win.number);
      place = p;
      held = held;
      at = sym at ∙ sym win.number;
      to = win.to ∙ to;
    })

-- what holds of the cell holds of each of the cells
pub met_one : (P : ℕ → Type 0) (n : ℕ) (cells : List ℕ) → cells ≡ n ∷ [] → P n → All P cells
met_one P n cells is has = subst (λ (ns : List ℕ). All P ns) (sym is) (All-push P [] n (λ k d low. absurd (omega arith)) has)

-- the target of a word that names a cell which is moved
pub one_target : (from : ℕ → Bool) (h : SpaceList) (word : ℕ) → word ≢ 0 → from (place_in word).space ≡ true → target_in from h word ≡ flat_of h (place_in word) ∷ []
one_target from h word some moves = let test : (word == 0) ≡ false = grind (arith, nat_tests) in rw test (rw moves refl)

-- the word with the place of the copy
pub one_moved : (from : ℕ → Bool) (h : SpaceList) (to : ℕ → Place) (word : ℕ) (p : Place) → word ≢ 0 → from (place_in word).space ≡ true → to (flat_of h (place_in word)) ≡ p → word_at (rights_in word) p ≡ moved_word from h to word
one_moved from h to word p some moves goes = let test : (word == 0) ≡ false = grind (arith, nat_tests) in rw test (rw moves (rw goes refl))
