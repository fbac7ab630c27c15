use Rattle.std.specs.List.{AllWithin}
use Rattle.tg_could.proofs.MarkLaws.{IsNot}
use Rattle.tg_could.proofs.separation.lacks.Given as goal

-- no edge before this place is one from x to y that has the right
abbrev pub invariant-loop-edge : goal.invariant-loop-edge
invariant-loop-edge l = AllWithin (IsNot l.question.x l.question.right l.question.y) l.edges 0 l.edge-index
