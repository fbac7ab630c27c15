use Rattle.std.proofs.Common.{take}
use Rattle.std.specs.List.{All}
use Rattle.tg_model.specs.Graph.{ProtectionGraph}
use Rattle.tg_model.specs.Picture.{IsPictureOf}
use Rattle.tg_could.specs.Reached.{JoinsMade, with_edges}
use Rattle.tgcould.proofs.supposed.suppose.Given as goal

-- the edges so far are there too
abbrev pub invariant-loop-edge : goal.invariant-loop-edge
invariant-loop-edge l =
    (g : ProtectionGraph) → IsPictureOf l.fn.picture g → All (JoinsMade g.made) l.edges → IsPictureOf l.supposed (with_edges g (take l.edge-index l.edges))
