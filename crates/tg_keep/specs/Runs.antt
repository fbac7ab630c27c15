-- What a run of batches says.
use Rattle.std.specs.Prelude.{◌≡◌, ℕ, List, [], ◌∷◌, ◌++◌, take, drop, IsTrue}
use Rattle.std.specs.List.{flat_map}
use Rattle.tg_keep.specs.Batches.{batch_texts}
use Rattle.sqlite_disk.specs.declared.Disk as disk
use Rattle.tg_keep.specs.Files.{AlwaysMixes, AwaitsBatch, LeavesOpen}
use Rattle.tg_keep.specs.Fronts.{AddsFront}
use Rattle.tg_keep.specs.Lines.{history_of}
use Rattle.tg_keep.specs.declared.batch.Batch.{Batch}
use Rattle.tg_keep.specs.declared.file.LineFile.{LineFile}
use Rattle.tg_keep.specs.declared.sum.LineSum.{LineSum}

-- the texts of all batches, in their order
abbrev pub all_texts : List Batch → List (List ℕ)
all_texts batches = flat_map batch_texts batches

-- Each batch comes after the one before it, and the first after a line with this sum.
abbrev pub FollowOn : LineSum → List Batch → Type 0
FollowOn sum [] = Unit {0}
FollowOn sum (batch ∷ batches) = (batch.before ≡ sum) × FollowOn batch.sum batches

-- The file awaits these batches, one after the other, on a disk that mixes bytes.
pub record MayPutRun {D : Type 0} (g : disk.Ghosts D) (file : LineFile D) (batches : List Batch) : Type 0 where
  pub settled : AwaitsBatch g file
  pub mixing : AlwaysMixes g.is_mixing
  pub follow : FollowOn file.sum batches

-- After what was said before, these bytes say all batches that were answered, and then a front of the others.
abbrev pub SaysAnswered : List (List ℕ) → List Batch → ℕ → List ℕ → Type 0
SaysAnswered before batches answered bytes = AddsFront (before ++ all_texts (take answered batches)) (all_texts (drop answered batches)) (history_of bytes)

-- Each content that a crash may leave says that.
abbrev pub LeavesAnswered : {D : Type 0} → (D → List ℕ) → (D → List ℕ → Type 0) → D → D → List Batch → ℕ → Type 0
LeavesAnswered seen may_leave old new batches answered = (c : List ℕ) → may_leave new c → SaysAnswered (history_of (seen old)) batches answered c

-- The file says that after a run of batches.
abbrev pub SaysRun : {D : Type 0} → (D → List ℕ) → D → D → List Batch → ℕ → Type 0
SaysRun seen old new batches answered = SaysAnswered (history_of (seen old)) batches answered (seen new)

-- Each content that a crash may leave says all batches that were answered and a front of the others, and isn't that of a
-- closed file. No wrong answer of the disk was taken as true.
pub record LeavesRun {D : Type 0} (g : disk.Ghosts D) (batches : List Batch) (answered : ℕ) (old new : D) : Type 0 where
  pub crash : IsTrue (g.is_clean new) → LeavesAnswered g.seen g.may_leave old new batches answered
  pub unclosed : IsTrue (g.is_clean new) → LeavesOpen g.may_leave new
  pub calm : g.is_clean new ≡ g.is_clean old

-- The file awaits a batch after a run of batches and a crash, and says all that were answered and a front of the others.
pub record ComesBackFrom {D : Type 0} (g : disk.Ghosts D) (batches : List Batch) (answered : ℕ) (old new : LineFile D) : Type 0 where
  pub settled : AwaitsBatch g new
  pub says : IsTrue (g.is_clean new.disk) → SaysRun g.seen old.disk new.disk batches answered
