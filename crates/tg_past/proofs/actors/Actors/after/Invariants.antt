use Rattle.std.proofs.Common.{◌≡◌, take}
use Rattle.tg_model.specs.Graph.{ProtectionGraph}
use Rattle.tg_journal.specs.History.{IsLegal, graph_after}
use Rattle.tg_past.specs.Inner.{HasActors}
use Rattle.tg_past.proofs.actors.Actors.after.Given as goal

abbrev pub invariant-loop-entry : goal.invariant-loop-entry
invariant-loop-entry l =
    (g : ProtectionGraph) → g.subjects ≡ l.first.subjects → g.made ≡ l.first.made → g.limit ≡ l.first.limit → IsLegal g l.entries →
    HasActors (graph_after g (take l.entry-index l.entries)) l.actors
