use Rattle.std.proofs.Common.{◌≡◌, ◌≢◌, ℕ, ◌<◌, length}
use Rattle.tg_space.specs.Rows.{link_of}
use Rattle.tg_space.specs.SpaceList.{cells_of}
use Rattle.tg_space.specs.Targets.{cell_numbered}
use Rattle.heap_tests.proofs.collections.sound.have_own_links.Given as goal

abbrev pub invariant-loop-number : goal.invariant-loop-number
invariant-loop-number l =
    (k : ℕ) → k < l.number → (d : ℕ) → d < length (cells_of l.spaces.spaces) → link_of (cell_numbered l.spaces.spaces k) ≢ 0 →
    link_of (cell_numbered l.spaces.spaces k) ≡ link_of (cell_numbered l.spaces.spaces d) → k ≡ d
