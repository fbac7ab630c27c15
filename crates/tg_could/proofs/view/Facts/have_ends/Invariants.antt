use Rattle.std.specs.List.{AllWithin}
use Rattle.tg_could.specs.Reached.{JoinsMade}
use Rattle.tg_could.proofs.view.Facts.have_ends.Given as goal

-- both ends of each edge before this place were made
abbrev pub invariant-loop-edge : goal.invariant-loop-edge
invariant-loop-edge l = AllWithin (JoinsMade l.self.made) l.edges 0 l.edge-index
