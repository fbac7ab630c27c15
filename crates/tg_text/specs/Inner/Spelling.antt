-- How the code spells a text: its end first, so that each part is put in front of what is after it already.
use Rattle.std.specs.Prelude.{◌≡◌, ◌+◌, ◌≤◌, ℕ, List, length}

-- in front of `end`, which lies in the bytes, there is room for so many
pub record HasRoomForText (most end : ℕ) (bytes : List ℕ) : Type 0 where
  pub room : most ≤ end
  pub inside : end ≤ length bytes

-- what was spelt in front of `end` takes so many bytes at most and starts at `start`, and there are as many bytes as before
pub record TakesAtMost (most end : ℕ) (bytes : List ℕ) (start : ℕ) (bytes' : List ℕ) : Type 0 where
  pub short : end ≤ start + most
  pub within : start ≤ end
  pub long : length bytes' ≡ length bytes
