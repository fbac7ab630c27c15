use Rattle.std.proofs.Common.{◌≡◌, ℕ}
use Rattle.std.specs.List.{AllWithin}
use Rattle.tg_could.proofs.view.are_each.Given as goal

-- each before this place is y
abbrev pub invariant-loop-name : goal.invariant-loop-name
invariant-loop-name l = AllWithin (λ (v : ℕ). v ≡ l.y) l.names 0 l.name-index
