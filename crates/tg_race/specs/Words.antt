-- Forwarding words, and the pairs of a cell and its place that they represent.
use Rattle.std.specs.Prelude.{◌≡◌, ◌≢◌, ℕ, suc, ◌+◌, ◌==◌, ◌&&◌, Bool, List, [], ◌∷◌, if◌then◌else◌, slice_index, All}
use Rattle.std.specs.List.{list_any}
use Rattle.tg_word.specs.declared.Place.{Place}
use Rattle.tg_word.specs.Word.{IsPlace, link_to, place_in}

-- the spaces that a collection copies into
abbrev pub OLD : ℕ
OLD = 0

abbrev pub AGED : ℕ
AGED = 1

abbrev pub space_of_age : Bool → ℕ
space_of_age aged = if aged then AGED else OLD

-- the word of a cell that has a place: a reference with no rights to that place
unfoldable pub place_word : Place → ℕ
place_word p = link_to p

-- the place in such a word
unfoldable pub place_of : ℕ → Place
place_of word = place_in word

-- the word names a place, and is the word of that place
abbrev pub IsForward : ℕ → Type 0
IsForward word = IsPlace (place_of word) × (place_word (place_of word) ≡ word)

-- each word is 0 or names a place
abbrev pub AreForward : List ℕ → Type 0
AreForward words = All (λ w. w ≢ 0 → IsForward w) words

-- the cell of the pair has this place
abbrev pub IsPair : List ℕ → ℕ × Place → Type 0
IsPair words q = slice_index words q.0 ≡ place_word q.1

-- the weights of the pairs of a cell and its place, of all cells that have one, added up; the first word is that of the cell i
abbrev pub weigh_words : (ℕ × Place → ℕ) → ℕ → List ℕ → ℕ
weigh_words h i [] = 0
weigh_words h i (w ∷ ws) = (if w == 0 then 0 else h (i, place_of w)) + weigh_words h (suc i) ws

abbrev pub same_place : Place → Place → Bool
same_place p q = (p.space == q.space) && ((p.block == q.block) && (p.cell == q.cell))

-- the weight under which a list of pairs weighs as often as it has the place p
abbrev pub place_at : Place → ℕ × Place → ℕ
place_at p q = if same_place q.1 p then 1 else 0

-- whether a place lies in the block b of a space
abbrev pub lies_in : ℕ → ℕ → Place → Bool
lies_in space b p = (p.space == space) && (b == p.block)

-- whether the pair is that of the cell and the place
abbrev pub same_pair : ℕ → Place → ℕ × Place → Bool
same_pair cell p q = (q.0 == cell) && same_place q.1 p

-- whether the pair of the cell and the place is in the list
abbrev pub has_pair : ℕ → Place → List (ℕ × Place) → Bool
has_pair cell p = list_any (same_pair cell p)
