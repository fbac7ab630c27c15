use Rattle.std.specs.List.{AllWithin}
use Rattle.tg_could.specs.View.{IsOfOne}
use Rattle.tg_could.proofs.view.islands.Islands.are_single.Given as goal

-- each before this place is of one island
abbrev pub invariant-loop-actor : goal.invariant-loop-actor
invariant-loop-actor l = AllWithin (IsOfOne l.names l.self) l.actors 0 l.actor-index
