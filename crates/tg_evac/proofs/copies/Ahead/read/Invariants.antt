use Rattle.std.proofs.Common.{◌≡◌, ℕ, ◌+◌, ◌<◌, [], length, slice_index_or}
use Rattle.tg_space.specs.Targets.{cell_numbered}
use Rattle.tg_evac.specs.Claims.{win_at}
use Rattle.tg_evac.proofs.copies.Ahead.read.Given as goal

abbrev pub invariant-loop-i : goal.invariant-loop-i
invariant-loop-i g l =
    record {
      long : length l.self.words ≡ 8;
      words : (j : ℕ) → j < l.i → slice_index_or l.self.words j [] ≡ cell_numbered l.spaces.spaces (win_at (g.C.Claimer.walked l.claimer).won (l.k + j)).cell;
    }
