-- What is promised of a history that goes on from a snapshot.
use Rattle.std.specs.Prelude.{◌≡◌, ◌↔◌, ◌+◌, ◌++◌, ℕ, List, length}
use Rattle.tg_model.specs.declared.command.Deed.{Deed}
use Rattle.tg_model.specs.Graph.{ProtectionGraph, IsSubject}
use Rattle.tg_model.specs.Rules.{answer_of}
use Rattle.tg_journal.specs.declared.entry.Entry.{Entry}
use Rattle.tg_journal.specs.Auditing.{HasComeTo}
use Rattle.tg_journal.specs.History.{IsLegal, IsFirstBad, graph_after}
use Rattle.tg_snapshot.specs.Snapshot.{Saved, IsSnapshotOf}

-- The entries are a legal history of the first graph, and the snapshot is of the graph after them.
pub record IsSnapshotAfter (first : ProtectionGraph) (front : List Entry) (p : Saved) : Type 0 where
  pub legal : IsLegal first front
  pub of : IsSnapshotOf p (graph_after first front)
  pub entries : p.entries ≡ length front

-- From the second graph each history goes on as from the first one after the entries before.
pub record Continues (first : ProtectionGraph) (front : List Entry) (second : ProtectionGraph) : Type 0 where
  -- later entries are legal from there exactly if they and those before are legal from the first graph
  pub legal : (es : List Entry) → IsLegal second es ↔ IsLegal first (front ++ es)
  -- the first bad entry is the same
  pub bad : (es : List Entry) (at : ℕ) → IsFirstBad second es at ↔ IsFirstBad first (front ++ es) (length front + at)
  -- each reply of the rules is the one that the first graph would have come to
  pub reply : (es : List Entry) (x : ℕ) (deed : Deed) → IsLegal second es → IsSubject (graph_after second es) x → answer_of (graph_after second es) x deed ≡ answer_of (graph_after first (front ++ es)) x deed
  -- the graphs stay alike where subjects reach
  pub next : (es : List Entry) → IsLegal second es → HasComeTo (graph_after first (front ++ es)) (graph_after second es)
