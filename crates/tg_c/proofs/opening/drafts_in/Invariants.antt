use Rattle.std.proofs.Common.{◌≡◌, map, take}
use Rattle.std.specs.List.{AllWithin}
use Rattle.std.specs.Option.{IsSome}
use Rattle.tg_c.specs.Forms.{value_at, value_in}
use Rattle.tg_c.proofs.opening.drafts_in.Given as goal

abbrev pub invariant-loop-worker : goal.invariant-loop-worker
invariant-loop-worker l = (l.drafts.items ≡ map value_in (take l.worker-index l.workers)) × AllWithin (λ v. IsSome (value_at v)) l.workers 0 l.worker-index
