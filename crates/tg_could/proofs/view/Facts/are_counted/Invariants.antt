use Rattle.std.specs.List.{AllWithin}
use Rattle.tg_could.specs.View.{IsCounted}
use Rattle.tg_could.proofs.view.Facts.are_counted.Given as goal

-- each edge before this place is counted
abbrev pub invariant-loop-edge : goal.invariant-loop-edge
invariant-loop-edge l = AllWithin (IsCounted l.self l.question l.word) l.edges 0 l.edge-index
