use Rattle.std.specs.List.{AllWithin}
use Rattle.tg_could.specs.Told.{TellsHolder}
use Rattle.tg_could.proofs.who.Candidates.has_holders.Given as goal

-- who holds the right by an edge before this place is reported
abbrev pub invariant-loop-edge : goal.invariant-loop-edge
invariant-loop-edge l = AllWithin (TellsHolder l.self l.right l.y) l.edges 0 l.edge-index
