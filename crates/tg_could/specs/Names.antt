-- Numbers for the names of a picture: its own where most names are shown, else its place in a list.
use Rattle.std.specs.Prelude.{ℕ, zero, suc, ◌+◌, ◌-◌, ◌/◌, ◌==◌, nat_le, if◌then◌else◌, List, length, slice_index_or}
use Rattle.tg_could.specs.declared.search.names.Names.{Names}
use Rattle.tg_could.specs.declared.search.names.Names.TheVariants.{Each, Few}

-- The half of a part of a list in which a name is looked for: where it begins, and how long it is.
unfoldable pub halved : List ℕ → ℕ → ℕ × ℕ → ℕ × ℕ
halved names name part =
    if nat_le (slice_index_or names (part.0 + part.1 / 2) 0) name then
    (part.0 + part.1 / 2, part.1 - part.1 / 2)
    else
    (part.0, part.1 / 2)

-- the part that is left of a list after so many halvings
unfoldable pub part_after : List ℕ → ℕ → ℕ → ℕ × ℕ
part_after names name zero = (0, length names)
part_after names name (suc steps) = halved names name (part_after names name steps)

-- where a name is found, or how long the list is
unfoldable pub place_in : List ℕ → ℕ → ℕ → ℕ
place_in names steps name =
    if slice_index_or names (part_after names name steps).0 0 == name then
    (part_after names name steps).0
    else
    length names

-- the number of a name
unfoldable pub number_in : Names → ℕ → ℕ
number_in (Each made) name = name
number_in (Few names steps) name = place_in names.items steps name
