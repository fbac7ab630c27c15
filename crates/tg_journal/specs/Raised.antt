-- Snapshots whose count of vertices is raised: names that may have been given after the snapshot are then given to nobody.
use Rattle.std.specs.Prelude.{◌≡◌, ℕ, nat_lt, List, Some, None, if◌then◌else◌}
use Rattle.tg_model.specs.Graph.{ProtectionGraph}
use Rattle.tg_journal.specs.declared.entry.Entry.{Entry}
use Rattle.tg_journal.specs.History.{IsLegal, graph_after}
use Rattle.tg_snapshot.specs.Snapshot.{Saved, unreached_value}

-- the snapshot by which this number of vertices was made
abbrev pub raised : Saved → ℕ → Saved
raised p made = record p { picture = record p.picture { made = made } }

-- the graph in which vertices were made up to this number: nobody reaches the new ones, and nothing else is new
abbrev pub with_unreached : ProtectionGraph → ℕ → ProtectionGraph
with_unreached g made =
    record g { made = made; value = λ y. if nat_lt y g.made then g.value y else if nat_lt y made then Some unreached_value else None }

-- a legal history leads from the first graph to the second
pub record LeadsTo (g h : ProtectionGraph) : Type 0 where
  pub entries : List Entry
  pub legal : IsLegal g entries
  pub graph : graph_after g entries ≡ h
