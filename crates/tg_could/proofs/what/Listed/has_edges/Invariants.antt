use Rattle.std.specs.List.{AllWithin}
use Rattle.tg_could.specs.Separation.{sides_against}
use Rattle.tg_could.specs.Listed.{ListsEdge}
use Rattle.tg_could.proofs.what.Listed.has_edges.Given as goal

-- each edge before this place both_imply out of neither set, and what x may get of it is reported
abbrev pub invariant-loop-edge : goal.invariant-loop-edge
invariant-loop-edge l = AllWithin (ListsEdge (sides_against l.sides) l.self l.x) l.edges 0 l.edge-index
