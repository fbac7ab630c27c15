use Rattle.std.proofs.Common.{◌≡◌, ℕ, ◌<◌}
use Rattle.tg_space.specs.Rows.{link_of}
use Rattle.tg_space.specs.Targets.{cell_numbered}
use Rattle.heap_tests.proofs.collections.sound.is_own_link.Given as goal

abbrev pub invariant-loop-number : goal.invariant-loop-number
invariant-loop-number l = (k : ℕ) → k < l.number → l.link ≡ link_of (cell_numbered l.spaces.spaces k) → l.owner ≡ k
