use Rattle.std.specs.List.{AllWithin}
use Rattle.tg_could.specs.Separation.{sides_of}
use Rattle.tg_could.proofs.MarkLaws.{Fits}
use Rattle.tg_could.proofs.separation.Separation.part.Given as goal

-- all edges before this place fit
abbrev pub invariant-loop-edge : goal.invariant-loop-edge
invariant-loop-edge l = AllWithin (Fits (sides_of l.self) l.question.x l.question.right l.question.y) l.edges 0 l.edge-index
