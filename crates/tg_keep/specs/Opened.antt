-- Why a file isn't begun or opened.
use Rattle.std.specs.Prelude.{◌≡◌, ℕ, ◌+◌, ◌^◌, ◌<◌, ◌≤◌, Bool, true, false, ◌&&◌, ◌||◌, List, [], ◌∷◌, length, slice_index, drop, bytes_eq, codes, IsTrue, Result, MatchResult}
use Rattle.std.specs.List.{list_any}
use Rattle.sqlite_disk.specs.Disk.{MoreFaults, Only}
use Rattle.tg_keep.specs.Lines.{begins_in, first_sum, file_texts, is_whole, length_after, raw_lines, sum_in}
use Rattle.sqlite_disk.specs.declared.Disk as disk
use Rattle.tg_keep.specs.Closed.{IsCutAt, is_closed}
use Rattle.tg_keep.specs.Files.{AlwaysMixes, AwaitsBatch, SaysLeft, SaysSame}
use Rattle.tg_keep.specs.declared.file.LineFile.{LineFile}
use Rattle.tg_keep.specs.declared.batch.BatchFault.{BatchFault}
use Rattle.tg_keep.specs.declared.batch.BatchFault.TheVariants as batch
use Rattle.tg_keep.specs.declared.fault.FileFault.{FileFault}
use Rattle.tg_keep.specs.declared.fault.FileFault.TheVariants as fault

-- A new file's first line couldn't be made.
abbrev pub fault_of_batch : BatchFault → FileFault
fault_of_batch batch.BadText = fault.NotKept
fault_of_batch batch.OutOfMemory = fault.OutOfMemory

-- A call of the disk has failed.
abbrev pub is_of_disk : FileFault → Bool
is_of_disk (fault.Io error) = true
is_of_disk fault.OutOfMemory = false
is_of_disk fault.BadMark = false
is_of_disk fault.NotEmpty = false
is_of_disk fault.NotKept = false
is_of_disk (fault.Damaged line byte) = false

-- The call was refused for what the file or the mark says.
abbrev pub is_refusal : FileFault → Bool
is_refusal (fault.Io error) = false
is_refusal fault.OutOfMemory = false
is_refusal fault.BadMark = true
is_refusal fault.NotEmpty = true
is_refusal fault.NotKept = true
is_refusal (fault.Damaged line byte) = true

-- The first text is that of a new file.
abbrev pub has_first_text : List (List ℕ) → Bool
has_first_text [] = false
has_first_text (text ∷ texts) = bytes_eq text (codes "kovshenul kept 1")

-- One of the lines begins a batch and is whole after the line before it. `before` is the sum before the first line.
unfoldable pub has_batch : List ℕ → List (List ℕ) → Bool
has_batch before [] = false
has_batch before (line ∷ lines) = (is_whole before line && begins_in line) || has_batch (sum_in line) lines

-- The same after the first line.
unfoldable pub has_later_batch : List (List ℕ) → Bool
has_later_batch [] = false
has_later_batch (line ∷ lines) = has_batch (sum_in line) lines

-- A line isn't whole, and a batch was begun after it. So the line had been on the disk.
abbrev pub is_damaged : List ℕ → Bool
is_damaged file = has_later_batch (raw_lines (drop (length_after first_sum file) file))

-- Of these lines at most the first begins a batch.
abbrev pub BeginsOnce : List ℕ → Type 0
BeginsOnce bytes = list_any begins_in (drop 1 (raw_lines bytes)) ≡ false

-- The file can be opened.
pub record MayOpen (file : List ℕ) : Type 0 where
  pub kept : has_first_text (file_texts file) ≡ true
  pub undamaged : is_damaged file ≡ false

-- the first line that isn't whole has this number and begins at this byte
pub record IsDamagedAt (line byte : ℕ) (file : List ℕ) : Type 0 where
  pub damaged : is_damaged file ≡ true
  pub number : line ≡ length (file_texts file) + 1
  pub place : byte ≡ length_after first_sum file

-- Why a file with these bytes isn't opened.
abbrev pub RefusesFile : List ℕ → FileFault → Type 0
RefusesFile file (fault.Io error) = Unit {0}
RefusesFile file fault.OutOfMemory = Unit {0}
RefusesFile file fault.NotEmpty = ⊥
RefusesFile file fault.BadMark = ⊥
RefusesFile file fault.NotKept = has_first_text (file_texts file) ≡ false
RefusesFile file (fault.Damaged line byte) = IsDamagedAt line byte file

-- A call of the disk has failed if the fault says so, and no fault of the disk is forgotten.
abbrev pub CausesFault : {T : Type 0} → Result T FileFault → ℕ → ℕ → Type 0
CausesFault result old new = MatchResult result (λ _. new ≡ old) (λ fault. (IsTrue (is_of_disk fault) → MoreFaults old new) × (old ≤ new))

-- The file awaits a batch, and says what it said. It could be opened.
pub record HasOpened {D : Type 0} (g : disk.Ghosts D) (old new : LineFile D) : Type 0 where
  pub settled : AwaitsBatch g new
  pub texts : IsTrue (g.is_clean new.disk) → SaysSame g.seen old.disk new.disk
  pub opens : IsTrue (g.is_clean new.disk) → MayOpen (g.seen old.disk)

-- The file awaits a batch, and says what one of the contents says that a crash may have left.
pub record ComesBack {D : Type 0} (g : disk.Ghosts D) (old new : LineFile D) : Type 0 where
  pub settled : AwaitsBatch g new
  pub says : IsTrue (g.is_clean new.disk) → SaysLeft g.seen g.may_leave old.disk new.disk

-- It is reported of one of the contents that a crash may have left whether the file was closed.
abbrev pub ReportsLeft : {D : Type 0} → (D → List ℕ → Type 0) → D → Bool → Type 0
ReportsLeft may_leave old closed = (c : List ℕ) × may_leave old c × (closed ≡ is_closed c)

-- The lines of the file end here, and a crash leaves it as it is.
pub record HasLinesTo {D : Type 0} (seen : D → List ℕ) (may_leave : D → List ℕ → Type 0) (end : ℕ) (disk : D) : Type 0 where
  pub lines : end ≡ length_after first_sum (seen disk)
  pub durable : Only (seen disk) (may_leave disk)

-- The file ends here with one zero, and in front of it as it was.
pub record IsEndedAt (end : ℕ) (old new : List ℕ) : Type 0 where
  pub size : length new ≡ end + 1
  pub below : (i : ℕ) → i < end → slice_index new i ≡ slice_index old i
  pub ends : slice_index new end ≡ 0

-- The file may be ended with one zero at this place. Or it may be cut there, on a disk that mixes bytes.
pub record MayEnd {D : Type 0} (g : disk.Ghosts D) (it : D) (end : ℕ) : Type 0 where
  pub usable : IsTrue (g.is_usable it)
  pub fits : end + 1 < 2 ^ 64

pub record MayCut {D : Type 0} (g : disk.Ghosts D) (it : D) (end : ℕ) : Type 0 where
  pub usable : IsTrue (g.is_usable it)
  pub fits : end + 1 < 2 ^ 64
  pub mixing : AlwaysMixes g.is_mixing

-- The file ends with one zero after its lines, or right after them, and is on the disk.
pub record HasEndedLines {D : Type 0} (g : disk.Ghosts D) (end : ℕ) (old new : D) : Type 0 where
  pub usable : IsTrue (g.is_usable new)
  pub ended : HasLinesTo g.seen g.may_leave end old → IsEndedAt end (g.seen old) (g.seen new)
  pub durable : Only (g.seen new) (g.may_leave new)

pub record HasCut {D : Type 0} (g : disk.Ghosts D) (end : ℕ) (old new : D) : Type 0 where
  pub cut : HasLinesTo g.seen g.may_leave end old → IsCutAt end (g.seen old) (g.seen new)
  pub durable : Only (g.seen new) (g.may_leave new)
