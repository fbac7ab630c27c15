use Rattle.std.proofs.Common.{◌<◌, ℕ, take}
use Rattle.std.specs.List.{Contains}
use Rattle.tg_model.specs.Graph.{ProtectionGraph}
use Rattle.tg_could.specs.Turns.{AreTurns, after}
use Rattle.tg_could.specs.Inner.Trial.{Stands}
use Rattle.tg_could.proofs.witness.trial.Trial.take_turns.Given as goal

-- the turns before this place are those of who acts, and the trial represents the graph after them
abbrev pub invariant-loop-turn : goal.invariant-loop-turn
invariant-loop-turn l =
    (g : ProtectionGraph) → Stands l.edges l.fn.self g →
    AreTurns (λ (p : ℕ). Contains l.silent p × (p < l.first)) g (take l.turn-index l.turns)
    × Stands l.edges l.self (after g (take l.turn-index l.turns))
