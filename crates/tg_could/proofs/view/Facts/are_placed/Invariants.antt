use Rattle.std.specs.List.{AllWithin}
use Rattle.tg_could.specs.View.{IsPlaced}
use Rattle.tg_could.proofs.view.Facts.are_placed.Given as goal

-- each who acts before this place is placed
abbrev pub invariant-loop-actor : goal.invariant-loop-actor
invariant-loop-actor l = AllWithin (IsPlaced l.self l.x l.y l.word) l.self.actors.items 0 l.actor-index
