use Rattle.std.proofs.Common.{◌≡◌, ◌++◌, List, ℕ}
use Rattle.tg_saved.specs.Read.{HasReadSnapshot}
use Rattle.tg_saved.proofs.text.read_lines.Given as goal

abbrev pub invariant-loop-number : goal.invariant-loop-number
invariant-loop-number g l = (front : List ℕ) × ((l.fn.text ≡ front ++ l.rest) × HasReadSnapshot front l.stage)
