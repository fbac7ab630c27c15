use Rattle.std.proofs.Common.{◌↔◌, ◌⊎◌, take}
use Rattle.std.specs.List.{Contains}
use Rattle.tg_word.specs.declared.Place.{Place}
use Rattle.tg_space.specs.Generations.{NamesYoung}
use Rattle.tg_space.specs.declared.root.Root.TheVariants.{Remembered}
use Rattle.tg_evac.specs.Copies.{moved_cell}
use Rattle.tg_evac.proofs.notes.Made.note_roots.Given as goal

abbrev pub invariant-loop-root : goal.invariant-loop-root
invariant-loop-root l =
    (p : Place) → Contains l.remembered.places p ↔ (Contains l.initial.remembered.places p ⊎ (Contains (take l.root-index l.roots) (Remembered p) × NamesYoung (moved_cell l.self.moves.kind l.self.spaces.now.spaces l.self.moves.forward.now.words p)))
