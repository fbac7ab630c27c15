use Rattle.std.proofs.Common.{◌≢◌}
use Rattle.std.specs.List.{AllWithin}
use Rattle.tg_threads.proofs.task.thread_of.Given as goal

-- the name isn't at an earlier place
abbrev pub invariant-loop-at : goal.invariant-loop-at
invariant-loop-at l = AllWithin (λ n. n ≢ l.worker) l.names 0 l.at
