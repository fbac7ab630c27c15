-- Whole runs of the rules, and what nobody can bring about by any of them.
use Rattle.std.specs.Prelude.{ℕ, ◌+◌, ◌<◌, ◌≤◌, List, [], ◌∷◌}
use Rattle.std.specs.List.{Contains}
use Rattle.tg_rights.specs.RightSet.{RightSet}
use Rattle.tg_rights.specs.declared.Right.{Right}
use Rattle.tg_model.specs.declared.command.Deed.{Deed}
use Rattle.tg_model.specs.Graph.{ProtectionGraph, IsSubject}
use Rattle.tg_model.specs.Picture.{Holds}
use Rattle.tg_model.specs.Rules.{Permits, step}
use Rattle.tg_model.specs.declared.command.Command.TheVariants.{Grant}
use Rattle.tg_model.specs.declared.command.Deed.TheVariants.{Plain}

-- who asks, and for what
abbrev pub Turn : Type 0
Turn = ℕ × Deed

-- who acts: an active subject that isn't silent
abbrev pub Acts : (ℕ → Type 0) → ProtectionGraph → ℕ → Type 0
Acts silent g p = IsSubject g p × (¬ silent p)

-- each turn is that of one who acts on the graph after those before it
abbrev pub AreTurns : (ℕ → Type 0) → ProtectionGraph → List Turn → Type 0
AreTurns silent g [] = Unit {0}
AreTurns silent g (turn ∷ turns) = Acts silent g turn.0 × AreTurns silent (step g turn.0 turn.1) turns

-- the graph after these turns
abbrev pub after : ProtectionGraph → List Turn → ProtectionGraph
after g [] = g
after g (turn ∷ turns) = after (step g turn.0 turn.1) turns

-- silent is who is in the list and was made: whoever is spawned later acts
abbrev pub IsSilent : List ℕ → ProtectionGraph → ℕ → Type 0
IsSilent silent g p = Contains silent p × (p < g.made)

-- after no list of turns of those who act does x hold this right over y
abbrev pub NeverHolds : List ℕ → ProtectionGraph → ℕ → Right → ℕ → Type 0
NeverHolds silent g x right y =
    (turns : List Turn) → AreTurns (IsSilent silent g) g turns → ¬ Holds (after g turns).label x right y

-- the host may grant these rights over the target to the other vertex
abbrev pub MayGrant : ProtectionGraph → ℕ → ℕ → ℕ → RightSet → Type 0
MayGrant g host via target rights = Permits g.label g.value host (Grant rights via target)

-- the graph after it did
abbrev pub granted : ProtectionGraph → ℕ → ℕ → ℕ → RightSet → ProtectionGraph
granted g host via target rights = step g host (Plain (Grant rights via target))

-- what never comes about on one graph never does on the other
abbrev pub StaysNever : List ℕ → ProtectionGraph → ProtectionGraph → Type 0
StaysNever silent g h = (x : ℕ) (right : Right) (y : ℕ) → NeverHolds silent g x right y → NeverHolds silent h x right y

-- these turns of those who act lead there
abbrev pub LeadThere : List ℕ → ProtectionGraph → List Turn → ℕ → Right → ℕ → Type 0
LeadThere silent g turns x right y = AreTurns (IsSilent silent g) g turns × Holds (after g turns).label x right y

-- some list of turns leads there
pub record CouldHold (silent : List ℕ) (g : ProtectionGraph) (x : ℕ) (right : Right) (y : ℕ) : Type 0 where
  pub turns : List Turn
  pub lead_there : LeadThere silent g turns x right y

-- the same graph, on which so many more vertices may be made
abbrev pub with_names : ProtectionGraph → ℕ → ProtectionGraph
with_names g names = record g { limit = g.limit + names }

-- a name that isn't made yet and may be made
abbrev pub MayCome : ProtectionGraph → ℕ → Type 0
MayCome g x = (g.made ≤ x) × (x < g.limit)
