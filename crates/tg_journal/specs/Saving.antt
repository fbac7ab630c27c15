-- Of which graphs an auditor has a snapshot.
use Rattle.std.specs.Prelude.{ℕ, ◌≤◌, IfSome}
use Rattle.tg_model.specs.declared.opening.TheConstants.{MAX_LASTING_VERTICES}
use Rattle.tg_model.specs.Graph.{ProtectionGraph}
use Rattle.tg_model.specs.Opened.{ValueFits}

-- A vertex was made, at most 2^48 may be, and what each stores fits its law. This holds of the graph that an opening starts from, of one
-- that a snapshot shows, and of each graph after a legal history of these.
pub record CanBeSaved (g : ProtectionGraph) : Type 0 where
  pub some_made : 1 ≤ g.made
  pub within : g.made ≤ g.limit
  pub limit : g.limit ≤ MAX_LASTING_VERTICES
  pub values : (y : ℕ) → IfSome (g.value y) ValueFits
