use Rattle.std.proofs.Common.{◌≡◌, ℕ, ◌+◌, length, subst, arith}
use Rattle.tg_parallel.specs.Jobs.{IsDone}
use Rattle.tg_parallel.proofs.many.work_all.Goals as goal

pub returns-clause-helped : goal.returns-clause-helped
returns-clause-helped g c =
    let many = c.in_ok-others.ensures.many in
    let all = c.in_ok-mine.ensures.made.many in
    let e : 1 + length c.in_ok-mine.theirs.items ≡ c.args.helpers = omega arith in
    subst (λ (n : ℕ). IsDone c.args.job.now n c.all_joined.result) e
    (c.all_joined.ensures.helped c.args.job.now.task.kind c.args.job.now.task.spaces.now c.args.job.now.task.roots.now 1 c.in_ok-mine.ensures.made.first c.in_ok-mine.ensures.made.rest)
