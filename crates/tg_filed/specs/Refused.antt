-- Why no store goes on from the file at a path.
use Rattle.std.specs.Prelude.{◌≡◌, ℕ, List, IsTrue}
use Rattle.sqlite_disk.specs.declared.Disk as disk
use Rattle.tg_space.specs.SpaceTable.{BlockLimits}
use Rattle.tg_keep.specs.Lines.{history_of}
use Rattle.tg_kept.specs.Reopening.{RefusesOpening}
use Rattle.tg_kept.specs.declared.reopen.NotOpened.{NotOpened}
use Rattle.tg_filed.specs.declared.fault.PathOpenFault.{PathOpenFault}
use Rattle.tg_filed.specs.declared.fault.PathOpenFault.TheVariants as fault

-- The file had these bytes, and no store with these limits goes on from it, for this reason. Each content that a crash may leave says
-- what the file said.
pub record RefusesBytes {D : Type 0} (g : disk.Ghosts D) (bytes : List ℕ) (limits : BlockLimits) (refused : NotOpened D) : Type 0 where
  pub reason : IsTrue (g.is_clean refused.disk) → RefusesOpening bytes limits refused.why
  pub crash : IsTrue (g.is_clean refused.disk) → (c : List ℕ) → g.may_leave refused.disk c → history_of c ≡ history_of bytes

-- The file wasn't opened at its path, or it had these bytes, and no store goes on from it.
abbrev pub RefusesFileAt : {D : Type 0} → disk.Ghosts D → List ℕ → BlockLimits → PathOpenFault D → Type 0
RefusesFileAt g bytes limits (fault.Path why) = Unit {0}
RefusesFileAt g bytes limits (fault.Kept refused) = RefusesBytes g bytes limits refused
