-- What a crash leaves of lines that were written over zeros.
use Rattle.std.specs.Prelude.{◌≡◌, ◌⊎◌, ℕ, ◌≤◌, List, ◌++◌, length, slice_index, take}

-- at each place a zero or the byte that was written there
abbrev pub IsZeroOr : List ℕ → List ℕ → Type 0
IsZeroOr written left = (i : ℕ) → (slice_index left i ≡ 0) ⊎ (slice_index left i ≡ slice_index written i)

-- a front of the list
abbrev pub IsFrontOf : {X : Type 0} → List X → List X → Type 0
IsFrontOf all front = (n : ℕ) × (n ≤ length all) × (front ≡ take n all)

-- after the texts from before a front of those that were added
abbrev pub AddsFront : List (List ℕ) → List (List ℕ) → List (List ℕ) → Type 0
AddsFront before added after = (n : ℕ) × (n ≤ length added) × (after ≡ before ++ take n added)
