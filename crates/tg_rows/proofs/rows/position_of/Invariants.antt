use Rattle.std.proofs.Common.{◌≡◌, ℕ, ◌<◌, false}
use Rattle.std.specs.Prelude.{slice_index}
use Rattle.tg_rows.specs.Spots.{refers_to}
use Rattle.tg_rows.proofs.rows.position_of.Given as goal

abbrev pub invariant-loop-k : goal.invariant-loop-k
invariant-loop-k l = (j : ℕ) → j < l.k → refers_to l.spaces.spaces l.name (slice_index l.words j) ≡ false
