use Rattle.std.specs.List.{AllWithin}
use Rattle.tg_could.specs.View.{JoinsEntry}
use Rattle.tg_could.proofs.view.islands.Islands.are_joined.Given as goal

-- the words count each edge before this place
abbrev pub invariant-loop-entry : goal.invariant-loop-entry
invariant-loop-entry l = AllWithin (JoinsEntry l.self) l.entries 0 l.entry-index
