-- Where a collection may find no room for what it has to copy.
use Rattle.std.specs.Prelude.{ℕ, List, length, eqb}
use Rattle.std.specs.List.{All, IsDistinct}
use Rattle.tg_space.specs.Collection.{MayLackRoom}
use Rattle.tg_space.specs.Closure.{IsInClosure}
use Rattle.tg_space.specs.SpaceList.{SpaceList}
use Rattle.tg_space.specs.Targets.{from_space, targets_of, all_root_targets}
use Rattle.tg_space.specs.declared.kind.Kind.{Kind}
use Rattle.tg_space.specs.declared.root.Root.{Root}
use Rattle.tg_evac.specs.Claims.{Claimed, HasFilledRoom, cells_won}

-- the cells that a collection has to copy: those of from-space that the roots reach
abbrev pub IsReachedFrom : Kind → SpaceList → List Root → ℕ → Type 0
IsReachedFrom kind h roots = IsInClosure (all_root_targets (from_space kind) h roots) (targets_of (from_space kind) h)

-- so many different cells are reached that a collection by this many helpers may find no room for them, where some blocks
-- are kept; a cell that isn't reached counts for nothing
pub record LacksRoomFor (space_blocks helpers kept : ℕ) (reached : ℕ → Type 0) : Type 0 where
  pub cells : List ℕ
  pub once : IsDistinct eqb cells
  pub from : All reached cells
  pub many : MayLackRoom space_blocks helpers kept (length cells)

-- as many cells were won as there is room for, and the roots reach all of them
abbrev pub IsFullOfReached : Kind → SpaceList → List Root → Claimed → Type 0
IsFullOfReached kind h roots claimed = HasFilledRoom claimed × All (IsReachedFrom kind h roots) (cells_won claimed.won)
