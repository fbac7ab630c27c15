use Rattle.std.specs.List.{AllWithin}
use Rattle.tg_could.specs.Separation.{sides_of}
use Rattle.tg_could.specs.Told.{TellsOf}
use Rattle.tg_could.proofs.who.Candidates.has_gifts.Given as goal

-- each edge before this place both_imply out of neither set, and its gift is reported
abbrev pub invariant-loop-edge : goal.invariant-loop-edge
invariant-loop-edge l = AllWithin (TellsOf (sides_of l.sides) l.self l.right l.y) l.edges 0 l.edge-index
