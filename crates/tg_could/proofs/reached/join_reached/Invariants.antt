use Rattle.std.specs.List.{AllWithin}
use Rattle.tg_model.specs.Graph.{ProtectionGraph}
use Rattle.tg_could.specs.Reached.{IsReachedPicture}
use Rattle.tg_could.specs.Reached.{JoinsReached}
use Rattle.tg_could.proofs.reached.join_reached.Given as goal

abbrev pub invariant-loop-edge : goal.invariant-loop-edge
invariant-loop-edge l = (g : ProtectionGraph) → IsReachedPicture l.picture g → AllWithin (JoinsReached g) l.edges 0 l.edge-index
