-- What zeros after the end of a file change.
use Rattle.std.specs.Prelude.{◌≡◌, ℕ, ◌+◌, ◌*◌, ◌^◌, ◌<◌, ◌≤◌, List, length, slice_index, IsTrue}
use Rattle.sqlite_disk.specs.Disk.{Follows, Only}
use Rattle.sqlite_disk.specs.declared.Disk as disk

-- The file is no shorter, and below n it is as it was.
pub record KeepsBelow (n : ℕ) (old new : List ℕ) : Type 0 where
  pub no_shorter : length old ≤ length new
  pub below : (i : ℕ) → i < length old → i < n → slice_index new i ≡ slice_index old i

-- The file has so many zeros more, and else it is as it was.
pub record AddsZeros (count : ℕ) (old new : List ℕ) : Type 0 where
  pub size : length new ≡ length old + count
  pub below : (i : ℕ) → i < length old → slice_index new i ≡ slice_index old i
  pub zeros : (i : ℕ) → length old ≤ i → slice_index new i ≡ 0

-- So many pages of zeros may be laid from `end` on.
pub record MayLay {D : Type 0} (g : disk.Ghosts D) (it : D) (end pages : ℕ) : Type 0 where
  pub usable : IsTrue (g.is_usable it)
  pub fits : end + 4096 * pages < 2 ^ 64

-- Each content that a crash may leave is one from before, changed from `end` on alone. No wrong answer of the disk was
-- taken as true.
pub record KeepsFront {D : Type 0} (g : disk.Ghosts D) (end : ℕ) (old new : D) : Type 0 where
  pub crash : Follows (KeepsBelow end) (g.may_leave old) (g.may_leave new)
  pub calm : g.is_clean new ≡ g.is_clean old

-- So many zeros were laid at the file's end, and are on the disk.
pub record HasLaid {D : Type 0} (g : disk.Ghosts D) (end count : ℕ) (old new : D) : Type 0 where
  pub usable : IsTrue (g.is_usable new)
  pub zeros : end ≡ length (g.seen old) → AddsZeros count (g.seen old) (g.seen new)
  pub durable : Only (g.seen new) (g.may_leave new)
