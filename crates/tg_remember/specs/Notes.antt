-- What contracts see of a remembered set: an ordered set of places.
use Rattle.std.specs.Prelude.{ℕ, Bool, ◌==◌, ◌&&◌, List, [], ◌∷◌, ◌++◌, if◌then◌else◌}
use Rattle.std.specs.List.{list_any}
use Rattle.tg_word.specs.declared.Place.{Place}

-- the places in the order in which each was first noted, and how many more can be noted without memory
pub record Notes : Type 0 where
  pub places : List Place
  pub spare : ℕ

abbrev pub equal_places : Place → Place → Bool
equal_places p q = (p.space == q.space) && (p.block == q.block) && (p.cell == q.cell)

-- the places after p is noted: p goes last, where it isn't there yet
abbrev pub noted : List Place → Place → List Place
noted places p = if list_any (equal_places p) places then places else places ++ p ∷ []

-- the place of a key: its space, block and cell
abbrev pub place_of_key : ℕ × ℕ × ℕ → Place
place_of_key key = record { space = key.0; block = key.1; cell = key.2 }
