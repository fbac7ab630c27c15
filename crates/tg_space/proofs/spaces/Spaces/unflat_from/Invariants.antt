use Rattle.std.proofs.Common.{◌<◌, ◌≤◌, ◌-◌, ◌/◌, vec_len, get_or}
use Rattle.tg_space.proofs.spaces.Spaces.unflat_from.Given as goal

abbrev pub invariant-loop-space : goal.invariant-loop-space
invariant-loop-space l = record {
  inside : l.space < vec_len l.self-inside.spaces;
  before : get_or l.self-inside.starts.items l.space 0 ≤ l.number / 64;
}

abbrev pub decreases-loop-space : goal.decreases-loop-space
decreases-loop-space l = vec_len l.self-inside.spaces - l.space
