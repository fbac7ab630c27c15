-- That a call of the keeper makes no vertex, so that there is none for which a purse has to pay.
use Rattle.std.specs.Prelude.{◌≡◌, List}
use Rattle.tg_passes.specs.declared.signed.Signed.{Signed}
use Rattle.tg_passes.specs.Passes.{Sees}
use Rattle.tg_shared.specs.Sessions.{KeeperState, SharedStart, graph_seen, keeper_knowledge}

-- The keeper's call came next after these entries since the start, which the keeper sees. As many vertices were made after the entries
-- that the keeper has then seen as after the entries before the call.
pub record MakesNoVertex (start : SharedStart) (old new : KeeperState) : Type 0 where
  pub before : List Signed
  pub sees : Sees before (keeper_knowledge old)
  pub made : (graph_seen start new.seen).made ≡ (graph_seen start before).made
