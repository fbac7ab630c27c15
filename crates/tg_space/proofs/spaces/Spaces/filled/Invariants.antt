use Rattle.std.proofs.Common.{◌≤◌, ◌-◌, vec_len}
use Rattle.tg_space.proofs.spaces.Spaces.filled.Given as goal

abbrev pub invariant-loop-self : goal.invariant-loop-self
invariant-loop-self l = (2 ≤ l.filled) × (l.filled ≤ vec_len l.self-inside.spaces)

abbrev pub decreases-loop-self : goal.decreases-loop-self
decreases-loop-self l = vec_len l.self-inside.spaces - l.filled
