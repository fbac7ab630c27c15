use Rattle.std.proofs.Common.{◌≢◌, ℕ, length, sym, arith}
use Rattle.std.specs.List.{AllWithin}
use Rattle.tg_threads.proofs.ShareLaws.{thread_first, thread_none}
use Rattle.tg_threads.proofs.task.thread_of.Goals as goal

pub returns-then-name-worker-clause-thread : goal.returns-then-name-worker-clause-thread
returns-then-name-worker-clause-thread c = sym (thread_first c.args.names.now c.args.worker c.loop-at.at _ c.loop-at-test.true c.if-name-worker.true c.loop-at.invariant)

pub returns-clause-thread : goal.returns-clause-thread
returns-clause-thread c = sym (thread_none c.args.names.now c.args.worker (λ k d low high. c.loop-at.invariant k d low (omega (arith, high, c.loop-at-test.false))))
