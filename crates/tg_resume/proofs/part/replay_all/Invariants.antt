use Rattle.std.proofs.Common.{take}
use Rattle.tg_resume.specs.Resuming.{Resumes}
use Rattle.tg_resume.proofs.part.replay_all.Given as goal

-- the entries so far were replayed
abbrev pub invariant-loop-entry : goal.invariant-loop-entry
invariant-loop-entry g l = Resumes (take l.entry-index l.entries) l.fn.store l.store
