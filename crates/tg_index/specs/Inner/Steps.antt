-- What a step of a change of an index is handed, and what it keeps.
use Rattle.std.specs.Prelude.{◌≡◌, ℕ, ◌*◌, ◌^◌, ◌<◌, ◌≤◌, List, Result, OnOk, length}
use Rattle.tg_index.specs.Bits.{bit_in}
use Rattle.tg_index.specs.Slots.{Slots, HasRoom, HasVacant}

-- a place was never in use, and there is room to use it
pub record HasNext (s : Slots) : Type 0 where
  pub room : HasRoom s
  pub inside : s.next < s.len

-- some place is empty, and there is room for a name at it
pub record HasRoomAndVacant (s : Slots) : Type 0 where
  pub room : HasRoom s
  pub vacant : HasVacant s

-- the names stand where they did, in as many places, and there is memory for as many more
pub record KeepsNames (old new : Slots) : Type 0 where
  pub entries : new.entries ≡ old.entries
  pub len : new.len ≡ old.len
  pub spare : new.spare ≡ old.spare

-- the set has the same numbers, and there is room for those below one where the answer is Ok
pub record MakesRoomFor {A E : Type 0} (old new : List ℕ) (numbers : ℕ) (result : Result A E) : Type 0 where
  pub room : OnOk result (numbers ≤ 64 * length new)
  pub kept : (n : ℕ) → bit_in new n ≡ bit_in old n

-- the set has the same numbers, no fewer words than before, and no more than there may be
pub record MayLengthen (old new : List ℕ) : Type 0 where
  pub longer : length old ≤ length new
  pub few : 64 * length new ≤ 2 ^ 32
  pub kept : (n : ℕ) → bit_in new n ≡ bit_in old n
