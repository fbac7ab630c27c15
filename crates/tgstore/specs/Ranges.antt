-- The ranges of the numbers that the command line may set.
use Rattle.std.specs.Prelude.{◌≤◌}
use Rattle.tg_space.specs.declared.limits.TheConstants.{MOST_BLOCKS}
use Rattle.tg_model.specs.declared.opening.TheConstants.{MAX_WORKERS, MAX_VERTICES}
use Rattle.tg_script.specs.declared.run_script.Settings.{Settings}

-- Each number is in its range. The ranges allow fewer vertices than workers.
pub record AreInRange (s : Settings) : Type 0 where
  pub workers : (1 ≤ s.workers) × (s.workers ≤ MAX_WORKERS)
  pub helpers : (1 ≤ s.helpers) × (s.helpers ≤ 8)
  pub vertices : (1 ≤ s.max_vertices) × (s.max_vertices ≤ MAX_VERTICES)
  pub blocks : (1 ≤ s.limits.max_blocks) × (s.limits.max_blocks ≤ MOST_BLOCKS)
