use Rattle.std.proofs.Common.{ℕ, ◌<◌}
use Rattle.tg_rights.specs.declared.Right.{Right}
use Rattle.tg_could.specs.Listed.{IsLeftOut}
use Rattle.tgcould.specs.Told.{IsHeldOverBy}
use Rattle.tgcould.proofs.stars.list_held.Given as goal

-- what was asked about and isn't listed is left out
abbrev pub invariant-loop-y : goal.invariant-loop-y
invariant-loop-y l = (k : ℕ) → k < l.y → (right : Right) → (¬ IsHeldOverBy l.rows.items right k) → IsLeftOut l.what right k
