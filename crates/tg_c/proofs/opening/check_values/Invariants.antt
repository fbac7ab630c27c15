use Rattle.std.specs.List.{AllWithin}
use Rattle.std.specs.Option.{IsSome}
use Rattle.tg_c.specs.Forms.{value_at}
use Rattle.tg_c.proofs.opening.check_values.Given as goal

abbrev pub invariant-loop-worker : goal.invariant-loop-worker
invariant-loop-worker l = AllWithin (λ v. IsSome (value_at v)) l.workers 0 l.worker-index
