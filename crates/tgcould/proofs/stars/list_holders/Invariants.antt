use Rattle.std.proofs.Common.{ℕ, ◌<◌}
use Rattle.std.specs.List.{Contains}
use Rattle.tg_could.specs.Told.{IsLeftOut}
use Rattle.tgcould.proofs.stars.list_holders.Given as goal

-- who was asked about and isn't among the names is left out
abbrev pub invariant-loop-x : goal.invariant-loop-x
invariant-loop-x l = (k : ℕ) → k < l.x → (¬ Contains l.names.items k) → IsLeftOut l.who k
