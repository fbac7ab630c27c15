use Rattle.std.proofs.Common.{◌≡◌, ℕ, take}
use Rattle.tg_rights.specs.RightSet.{RightSet}
use Rattle.tg_past.specs.Inner.{left_after}
use Rattle.tg_past.proofs.ChangeLaws.{joined}
use Rattle.tg_past.proofs.edges.LastEdges.begin.Given as goal

abbrev pub invariant-loop-edge : goal.invariant-loop-edge
invariant-loop-edge l =
    (label : ℕ → ℕ → RightSet) (a b : ℕ) → left_after l.self label a b ≡ left_after l.fn.self (joined label (take l.edge-index l.first)) a b
