-- What a replay of turns knows of a graph.
use Rattle.std.specs.Prelude.{◌≡◌, ◌≢◌, ℕ, ◌<◌, List, IsOk}
use Rattle.std.specs.List.{Contains}
use Rattle.tg_rights.specs.RightSet.{RightSet, only}
use Rattle.tg_model.specs.declared.edge.Edge.{Edge}
use Rattle.tg_model.specs.declared.making.Making.{Making}
use Rattle.tg_model.specs.declared.value.Value.{Value}
use Rattle.tg_model.specs.Graph.{ProtectionGraph, with_rights}
use Rattle.tg_model.specs.Making.{deed_making}
use Rattle.tg_model.specs.Picture.{AreAmong}
use Rattle.tg_model.specs.Rules.{HoldsOver, step}
use Rattle.tg_could.specs.Turns.{Turn, AreTurns, after}
use Rattle.tg_could.specs.declared.question.Scene.{Scene}
use Rattle.tg_could.specs.declared.witness.trial.Transfer.{Transfer}
use Rattle.tg_could.specs.declared.witness.trial.Trial.{Trial}

-- the graph has these subjects, names and limit, and at least the rights on these edges and on those that came since
pub record Stands (edges : List Edge) (t : Trial) (g : ProtectionGraph) : Type 0 where
  pub subjects : g.subjects ≡ t.subjects.items
  pub made : g.made ≡ t.made
  pub limit : g.limit ≡ t.limit
  pub first : AreAmong edges g.label
  pub later : AreAmong t.added.items g.label

-- if memory didn't run out, the trial represents the graph, with the edges of the picture
abbrev pub BeginsAt : Scene → Trial → ProtectionGraph → Type 0
BeginsAt scene t g = IsOk t.rows.grown → Stands scene.picture.now.edges t g

-- silent is who is in the list and has a name below the first
abbrev pub SilentBelow : List ℕ → ℕ → ℕ → Type 0
SilentBelow silent first p = Contains silent p × (p < first)

-- the turns are those of who acts, and the trial represents the graph after them
abbrev pub AreTaken : List Edge → (ℕ → Type 0) → ProtectionGraph → List Turn → Trial → Type 0
AreTaken edges silent g turns t = AreTurns silent g turns × Stands edges t (after g turns)

-- on each graph that has these edges and those that came since, one vertex has the rights over another
abbrev pub HeldByEdges : List Edge → Trial → ℕ → ℕ → RightSet → Type 0
HeldByEdges edges t from to rights = (label : ℕ → ℕ → RightSet) → AreAmong edges label → AreAmong t.added.items label →
    HoldsOver label from to rights

-- the graph allows the transfer, and the trial represents the graph after it
abbrev pub IsHandedOn : List Edge → Transfer → ProtectionGraph → Trial → Type 0
IsHandedOn edges h g t = (h.worker ≢ h.via) × (h.via ≢ h.target) × (h.worker ≢ h.target) ×
    HoldsOver g.label h.worker h.via (only h.by) × HoldsOver g.label h.giver h.target h.rights ×
    Stands edges t (record g { label = with_rights g.label h.taker h.target h.rights })

-- if the old trial represents a graph, the new one represents it after the making
abbrev pub StandsAfterMaking : Trial → Trial → ℕ → Making → RightSet → Type 0
StandsAfterMaking old new worker making label = (edges : List Edge) (g : ProtectionGraph) (value : Value) → Stands edges old g →
    Stands edges new (step g worker (deed_making making label value))
