-- Where a store begins: its opening, or a snapshot from which it was opened again.
use Rattle.std.specs.Prelude.{◌≡◌, Option, Some, None, IfSome}
use Rattle.tg_model.specs.Graph.{ProtectionGraph}
use Rattle.tg_model.specs.Opened.{Plan, IsPlan, start_of}
use Rattle.tg_snapshot.specs.Snapshot.{Saved, IsSnapshot, graph_shown}

-- The opening, and the snapshot from which the store was opened again, if it was.
pub record Origin : Type 0 where
  pub plan : Plan
  pub shown : Option Saved

-- where a store begins that was opened by its opening alone
abbrev pub opened_by : Plan → Origin
opened_by plan = record { plan = plan; shown = None }

-- and where one begins that was opened again from a snapshot
abbrev pub opened_again : Plan → Saved → Origin
opened_again plan snapshot = record { plan = plan; shown = Some snapshot }

abbrev pub start_shown : Plan → Option Saved → ProtectionGraph
start_shown plan None = start_of plan
start_shown plan (Some snapshot) = graph_shown snapshot

-- the graph that a store begins with: the opening's, or the one that the snapshot shows
abbrev pub start_at : Origin → ProtectionGraph
start_at o = start_shown o.plan o.shown

-- the opening is one, the snapshot is one, and both have the same limit
pub record IsOrigin (o : Origin) : Type 0 where
  pub plan : IsPlan o.plan
  pub snapshot : IfSome o.shown IsSnapshot
  pub limit : IfSome o.shown (λ snapshot. snapshot.picture.limit ≡ o.plan.limit)
