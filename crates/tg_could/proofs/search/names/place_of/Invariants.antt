use Rattle.std.proofs.Common.{◌≡◌, ◌+◌, ◌≤◌, length}
use Rattle.tg_could.specs.Names.{part_after}
use Rattle.tg_could.proofs.search.names.place_of.Given as goal

-- the part is what is left after the halvings so far
abbrev pub invariant-loop-step : goal.invariant-loop-step
invariant-loop-step l = (l.part ≡ part_after l.names l.name l.step) × (l.part.0 + l.part.1 ≤ length l.names)
