-- Lists that are put into a slice, as far as there is room.
use Rattle.std.specs.Prelude.{ℕ, ◌++◌, List, length, take, drop}

-- the first of the numbers that fit, and after them the room that is left, as it was
abbrev pub shown_in : List ℕ → List ℕ → List ℕ
shown_in numbers room = take (length room) numbers ++ drop (length numbers) room
