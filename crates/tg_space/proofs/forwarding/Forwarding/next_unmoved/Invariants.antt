use Rattle.std.proofs.Common.{◌≢◌, ◌<◌, ◌≤◌, ℕ, slice_index}
use Rattle.tg_space.proofs.forwarding.Forwarding.next_unmoved.Given as goal

-- each cell so far has a word
abbrev pub invariant-loop-cell : goal.invariant-loop-cell
invariant-loop-cell l = (cell : ℕ) → l.fn.from ≤ cell → cell < l.cell → slice_index l.self.words cell ≢ 0
