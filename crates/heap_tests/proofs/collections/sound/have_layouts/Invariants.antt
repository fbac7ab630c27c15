use Rattle.std.proofs.Common.{ℕ, ◌<◌}
use Rattle.tg_space.specs.Soundness.{HasLayout}
use Rattle.tg_space.specs.Targets.{cell_numbered}
use Rattle.heap_tests.proofs.collections.sound.have_layouts.Given as goal

abbrev pub invariant-loop-number : goal.invariant-loop-number
invariant-loop-number l = (k : ℕ) → k < l.number → HasLayout l.spaces.spaces (cell_numbered l.spaces.spaces k)
