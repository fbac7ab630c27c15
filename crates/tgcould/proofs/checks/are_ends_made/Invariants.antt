use Rattle.std.specs.List.{AllWithin}
use Rattle.tg_could.specs.Reached.{JoinsMade}
use Rattle.tgcould.proofs.checks.are_ends_made.Given as goal

abbrev pub invariant-loop-edge : goal.invariant-loop-edge
invariant-loop-edge g l = AllWithin (JoinsMade l.made) l.edges 0 l.edge-index
