-- When a file of lines is ready for a batch, and what a batch makes of it.
use Rattle.std.specs.Prelude.{◌≡◌, ◌⊎◌, ℕ, ◌+◌, ◌*◌, ◌^◌, ◌<◌, ◌≤◌, Bool, true, false, List, [], ◌∷◌, ◌++◌, length, slice_index, take, codes, IsTrue}
use Rattle.sqlite_disk.specs.Disk.{Only}
use Rattle.sqlite_disk.specs.declared.Disk as disk
use Rattle.tg_keep.specs.Closed.{is_closed, last_text}
use Rattle.tg_keep.specs.Fronts.{AddsFront}
use Rattle.tg_keep.specs.Lines.{first_sum, history_of, is_marking, last_sum_after, length_after, texts_after, file_texts}
use Rattle.tg_keep.specs.declared.batch.Batch.{Batch}
use Rattle.tg_keep.specs.declared.file.LineFile.{LineFile}

-- The file has whole lines up to `end`, and zeros from there on. A crash leaves it as it is.
pub record IsSynced {D : Type 0} (seen : D → List ℕ) (may_leave : D → List ℕ → Type 0) (file : LineFile D) : Type 0 where
  pub size : file.length ≡ length (seen file.disk)
  pub whole : length_after first_sum (take file.end (seen file.disk)) ≡ file.end
  pub last : file.sum.digits ≡ last_sum_after first_sum (take file.end (seen file.disk))
  pub zeros : (i : ℕ) → file.end ≤ i → slice_index (seen file.disk) i ≡ 0
  pub durable : Only (seen file.disk) (may_leave file.disk)

-- A batch may be put: no sync has failed, and a zero comes after the lines. The file is on the disk, unless a wrong
-- answer of the disk was taken as true.
pub record AwaitsBatch {D : Type 0} (g : disk.Ghosts D) (file : LineFile D) : Type 0 where
  pub usable : IsTrue (g.is_usable file.disk)
  pub room : file.end < file.length
  pub synced : IsTrue (g.is_clean file.disk) → IsSynced g.seen g.may_leave file

-- After a crash each disk of this type has the old bytes or those that were written, below the old end of its file.
abbrev pub AlwaysMixes : {D : Type 0} → (D → Bool) → Type 0
AlwaysMixes {D} is_mixing = (disk : D) → IsTrue (is_mixing disk)

-- The disk may be used, and mixes bytes.
pub record MayUseDisk {D : Type 0} (g : disk.Ghosts D) (it : D) : Type 0 where
  pub usable : IsTrue (g.is_usable it)
  pub mixing : AlwaysMixes g.is_mixing

-- The file awaits a batch, on a disk that mixes bytes.
pub record MayBeWritten {D : Type 0} (g : disk.Ghosts D) (file : LineFile D) : Type 0 where
  pub settled : AwaitsBatch g file
  pub mixing : AlwaysMixes g.is_mixing

-- And this batch comes after the file's last line.
pub record MayPut {D : Type 0} (g : disk.Ghosts D) (file : LineFile D) (batch : Batch) : Type 0 where
  pub settled : AwaitsBatch g file
  pub mixing : AlwaysMixes g.is_mixing
  pub follows : batch.before ≡ file.sum

-- what a new file says
abbrev pub first_texts : List (List ℕ)
first_texts = codes "kovshenul kept 1" ∷ []

-- The file says what it said, or these texts more.
abbrev pub SaysSame : {D : Type 0} → (D → List ℕ) → D → D → Type 0
SaysSame seen old new = history_of (seen new) ≡ history_of (seen old)

abbrev pub SaysMore : {D : Type 0} → (D → List ℕ) → D → D → List (List ℕ) → Type 0
SaysMore seen old new texts = history_of (seen new) ≡ history_of (seen old) ++ texts

-- Each content that a crash may leave says what the file said. Or it may have been left before, too. Or it says a front
-- of these texts more.
abbrev pub LeavesSame : {D : Type 0} → (D → List ℕ) → (D → List ℕ → Type 0) → D → D → Type 0
LeavesSame seen may_leave old new = (c : List ℕ) → may_leave new c → history_of c ≡ history_of (seen old)

abbrev pub LeavesOldOrSame : {D : Type 0} → (D → List ℕ) → (D → List ℕ → Type 0) → D → D → Type 0
LeavesOldOrSame seen may_leave old new = (c : List ℕ) → may_leave new c → may_leave old c ⊎ (history_of c ≡ history_of (seen old))

abbrev pub LeavesFront : {D : Type 0} → (D → List ℕ) → (D → List ℕ → Type 0) → D → D → List (List ℕ) → Type 0
LeavesFront seen may_leave old new texts = (c : List ℕ) → may_leave new c → AddsFront (history_of (seen old)) texts (history_of c)

-- No content that a crash may leave is that of a closed file. Or each is.
abbrev pub LeavesOpen : {D : Type 0} → (D → List ℕ → Type 0) → D → Type 0
LeavesOpen may_leave disk = (c : List ℕ) → may_leave disk c → is_closed c ≡ false

abbrev pub LeavesClosed : {D : Type 0} → (D → List ℕ → Type 0) → D → Type 0
LeavesClosed may_leave disk = (c : List ℕ) → may_leave disk c → is_closed c ≡ true

-- The file says what one of the contents says that a crash may have left.
abbrev pub SaysLeft : {D : Type 0} → (D → List ℕ) → (D → List ℕ → Type 0) → D → D → Type 0
SaysLeft seen may_leave old new = (c : List ℕ) × may_leave old c × (history_of (seen new) ≡ history_of c)

-- A new file was begun: it awaits a batch, and says what a new file says. It was empty.
pub record HasBegun {D : Type 0} (g : disk.Ghosts D) (old new : LineFile D) : Type 0 where
  pub settled : AwaitsBatch g new
  pub texts : IsTrue (g.is_clean new.disk) → history_of (g.seen new.disk) ≡ first_texts
  pub empty : IsTrue (g.is_clean new.disk) → g.seen old.disk ≡ []

-- The file awaits a batch, and says nothing.
pub record HasEmptied {D : Type 0} (g : disk.Ghosts D) (new : LineFile D) : Type 0 where
  pub settled : AwaitsBatch g new
  pub texts : IsTrue (g.is_clean new.disk) → history_of (g.seen new.disk) ≡ []

-- The file awaits a batch, and says what it said. A zero is left after so many bytes.
pub record HasRoomAhead {D : Type 0} (g : disk.Ghosts D) (bytes : ℕ) (old new : LineFile D) : Type 0 where
  pub settled : AwaitsBatch g new
  pub texts : IsTrue (g.is_clean new.disk) → SaysSame g.seen old.disk new.disk
  pub room : new.end + bytes < new.length
  pub sum : new.sum ≡ old.sum

-- So many pages of zeros may be laid after those of the file.
pub record MayGrow {D : Type 0} (g : disk.Ghosts D) (file : LineFile D) (pages : ℕ) : Type 0 where
  pub settled : AwaitsBatch g file
  pub fits : file.length + 4096 * pages < 2 ^ 64

-- The file awaits a batch, and says what it said. It is longer by so many bytes.
pub record HasGrown {D : Type 0} (g : disk.Ghosts D) (bytes : ℕ) (old new : LineFile D) : Type 0 where
  pub settled : AwaitsBatch g new
  pub texts : IsTrue (g.is_clean new.disk) → SaysSame g.seen old.disk new.disk
  pub longer : new.length ≡ old.length + bytes

-- The file awaits a batch, and says what it said.
pub record StaysReady {D : Type 0} (g : disk.Ghosts D) (old new : LineFile D) : Type 0 where
  pub settled : AwaitsBatch g new
  pub texts : IsTrue (g.is_clean new.disk) → SaysSame g.seen old.disk new.disk

-- The file awaits a batch, and says these texts more.
pub record HasPut {D : Type 0} (g : disk.Ghosts D) (more : List (List ℕ)) (old new : LineFile D) : Type 0 where
  pub settled : AwaitsBatch g new
  pub texts : IsTrue (g.is_clean new.disk) → SaysMore g.seen old.disk new.disk more

-- Each content that a crash may leave says what the file said, and isn't that of a closed file. No wrong answer of the
-- disk was taken as true.
pub record LeavesAsItWas {D : Type 0} (g : disk.Ghosts D) (old new : D) : Type 0 where
  pub crash : IsTrue (g.is_clean new) → LeavesSame g.seen g.may_leave old new
  pub unclosed : IsTrue (g.is_clean new) → LeavesOpen g.may_leave new
  pub calm : g.is_clean new ≡ g.is_clean old

-- Each content that a crash may leave says a front of these texts more, and isn't that of a closed file. No wrong answer
-- of the disk was taken as true.
pub record LeavesPart {D : Type 0} (g : disk.Ghosts D) (texts : List (List ℕ)) (old new : D) : Type 0 where
  pub crash : IsTrue (g.is_clean new) → LeavesFront g.seen g.may_leave old new texts
  pub unclosed : IsTrue (g.is_clean new) → LeavesOpen g.may_leave new
  pub calm : g.is_clean new ≡ g.is_clean old

-- The file awaits these bytes, on a disk that mixes bytes. They are whole lines after the file's last line, and end with
-- this sum. A zero is left after them.
pub record MayWrite {D : Type 0} (g : disk.Ghosts D) (file : LineFile D) (bytes sum : List ℕ) : Type 0 where
  pub settled : AwaitsBatch g file
  pub mixing : IsTrue (g.is_mixing file.disk)
  pub whole : length_after file.sum.digits bytes ≡ length bytes
  pub last : sum ≡ last_sum_after file.sum.digits bytes
  pub room : file.end + length bytes < file.length

-- The lines of these bytes were written after those of the file.
pub record HasWrittenLines {D : Type 0} (g : disk.Ghosts D) (bytes : List ℕ) (old new : LineFile D) : Type 0 where
  pub settled : AwaitsBatch g new
  pub texts : IsTrue (g.is_clean new.disk) → file_texts (g.seen new.disk) ≡ file_texts (g.seen old.disk) ++ texts_after old.sum.digits bytes
  pub fits : new.length < 2 ^ 64

-- Each content that a crash may leave has a front of these texts more, and isn't that of a closed file. No wrong answer
-- of the disk was taken as true.
pub record LeavesLines {D : Type 0} (g : disk.Ghosts D) (texts : List (List ℕ)) (old new : D) : Type 0 where
  pub crash : IsTrue (g.is_clean new) → (c : List ℕ) → g.may_leave new c → AddsFront (file_texts (g.seen old)) texts (file_texts c)
  pub unclosed : IsTrue (g.is_clean new) → LeavesOpen g.may_leave new
  pub calm : g.is_clean new ≡ g.is_clean old

-- The file awaits this mark, on a disk that mixes bytes.
pub record MayMark {D : Type 0} (g : disk.Ghosts D) (file : LineFile D) (mark : List ℕ) : Type 0 where
  pub settled : AwaitsBatch g file
  pub mixing : AlwaysMixes g.is_mixing
  pub marking : is_marking mark ≡ true

-- A mark was put: the file awaits a batch, and says what it said. Its last line is the mark.
pub record HasMark {D : Type 0} (g : disk.Ghosts D) (mark : List ℕ) (old new : LineFile D) : Type 0 where
  pub settled : AwaitsBatch g new
  pub texts : IsTrue (g.is_clean new.disk) → SaysSame g.seen old.disk new.disk
  pub last : IsTrue (g.is_clean new.disk) → last_text (file_texts (g.seen new.disk)) ≡ mark
  pub fits : new.length < 2 ^ 64

-- The file was closed: it says what it said, and each content that a crash may leave is that of a closed file.
pub record HasClosed {D : Type 0} (g : disk.Ghosts D) (old new : D) : Type 0 where
  pub texts : IsTrue (g.is_clean new) → SaysSame g.seen old new
  pub closed : IsTrue (g.is_clean new) → LeavesClosed g.may_leave new

-- Each content that a crash may leave says what the file said. No wrong answer of the disk was taken as true.
pub record LeavesLast {D : Type 0} (g : disk.Ghosts D) (old new : D) : Type 0 where
  pub crash : IsTrue (g.is_clean new) → LeavesSame g.seen g.may_leave old new
  pub calm : g.is_clean new ≡ g.is_clean old
