-- What a walk over the cells sees of a table of claims, whatever the table is.
use Rattle.std.specs.Prelude.{◌≡◌, ℕ, ◌+◌, ◌≤◌, ◌<◌, ⊤, List, [], ◌∷◌, ◌++◌, length, map, slice_index_or, take}
use Rattle.std.specs.List.{All, Contains}
use Rattle.tg_word.specs.declared.Place.{Place}
use Rattle.tg_word.specs.Word.{link_to, place_in}
use Rattle.tg_space.specs.SpaceList.{SpaceList}
use Rattle.tg_space.specs.Targets.{cell_numbered, from_space, image_of, targets_of}
use Rattle.tg_space.specs.declared.kind.Kind.{Kind}
use Rattle.tg_evac.specs.Win.{Win}
use Rattle.tg_evac.specs.Claims.{Claimed, cells_won, win_at, won_in}

-- the kind of the collection, how many blocks of Old stay, how many cells Old and Aged may have each, how many cells
-- there are, what else no claim changes, the pairs that were won, and the cells whose places are known
pub record Walked (Fixed : Type 0) : Type 0 where
  pub kind : Kind
  pub kept : ℕ
  pub room : ℕ
  pub cells : ℕ
  pub fixed : Fixed
  pub won : List Win
  pub met : List ℕ

-- more pairs were won, each with this reason, and no cell was forgotten
pub record AddsWins {Fixed : Type 0} (reason : Win → Type 0) (before after : Walked Fixed) : Type 0 where
  pub added : List Win
  pub is : after.won ≡ before.won ++ added
  pub reasons : All reason added
  pub still : (c : ℕ) → Contains before.met c → Contains after.met c
  pub same_kind : after.kind ≡ before.kind
  pub same_kept : after.kept ≡ before.kept
  pub same_room : after.room ≡ before.room
  pub as_many : after.cells ≡ before.cells
  pub same_fixed : after.fixed ≡ before.fixed

-- more pairs were won, for whatever reason
abbrev pub KeepsWins : {Fixed : Type 0} → Walked Fixed → Walked Fixed → Type 0
KeepsWins before after = AddsWins (λ w. ⊤) before after

-- a map that agrees with all that is known later agrees with what was known before
abbrev pub KnowsMore : ((ℕ → Place) → Type 0) → ((ℕ → Place) → Type 0) → Type 0
KnowsMore before after = (to : ℕ → Place) → after to → before to

-- the map has the places of the pairs
abbrev pub HasPlacesOf : List Win → (ℕ → Place) → Type 0
HasPlacesOf won to = All (λ w. to w.cell ≡ place_in w.word) won

-- the word is the link to the place in it, and has no rights
abbrev pub IsClaimLink : ℕ → Type 0
IsClaimLink word = word ≡ link_to (place_in word)

-- ---- copies

-- the copy of the cell with a number under a map
abbrev pub image_at : Kind → SpaceList → (ℕ → Place) → ℕ → List ℕ
image_at kind h to c = image_of (from_space kind) h to (cell_numbered h c)

-- the copies of the pairs' cells that are in a space, one after the other
abbrev pub copies_to : ℕ → Kind → SpaceList → (ℕ → Place) → List Win → List (List ℕ)
copies_to space kind h to won = map (λ w. image_at kind h to w.cell) (won_in space won)

-- these are the copies in a space, under whatever map has the places of the pairs
abbrev pub AreCopiesIn : ℕ → Kind → SpaceList → List Win → List (List ℕ) → Type 0
AreCopiesIn space kind h won copies = (to : ℕ → Place) → HasPlacesOf won to → copies ≡ copies_to space kind h to won

-- One more copy is after those there were: that of a cell with these words, under whatever map agrees with all that is
-- known.
pub record AddsCopy (kind : Kind) (h : SpaceList) (knows : (ℕ → Place) → Type 0) (words : List ℕ) (before after : List (List ℕ)) : Type 0 where
  pub copy : List ℕ
  pub is : after ≡ before ++ copy ∷ []
  pub image : (to : ℕ → Place) → knows to → copy ≡ image_of (from_space kind) h to words

-- So many pairs were scanned: what their cells name is met, and their copies are these under whatever map agrees with all
-- that is known.
pub record AreScanned {Fixed : Type 0} (h : SpaceList) (w : Walked Fixed) (knows : (ℕ → Place) → Type 0) (scanned : ℕ) (aged old : List (List ℕ)) : Type 0 where
  pub within : scanned ≤ length w.won
  pub met : (k : ℕ) → k < scanned → All (Contains w.met) (targets_of (from_space w.kind) h (win_at w.won k).cell)
  pub aged_long : length aged ≡ length (won_in 1 (take scanned w.won))
  pub old_long : length old ≡ length (won_in 0 (take scanned w.won))
  pub in_aged : (to : ℕ → Place) → knows to → aged ≡ copies_to 1 w.kind h to (take scanned w.won)
  pub in_old : (to : ℕ → Place) → knows to → old ≡ copies_to 0 w.kind h to (take scanned w.won)

-- so many pairs from the k-th on are there, and these are the words of their cells
pub record AreRead (h : SpaceList) (won : List Win) (k count : ℕ) (near : List (List ℕ)) : Type 0 where
  pub within : k + count ≤ length won
  pub words : (i : ℕ) → i < count → slice_index_or near i [] ≡ cell_numbered h (win_at won (k + i)).cell

-- ---- the plain table

-- the places that the plain table has given are known, and no others
abbrev pub walked_of : Claimed → Walked (Unit {0})
walked_of c = record { kind = c.plan.kind; kept = c.plan.kept; room = c.plan.room; cells = length c.forward; fixed = tt; won = c.won; met = cells_won c.won }
