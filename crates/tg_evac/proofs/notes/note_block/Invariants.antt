use Rattle.std.proofs.Common.{◌≡◌, ◌<◌, ◌+◌, ◌↔◌, ◌⊎◌}
use Rattle.std.specs.List.{Contains}
use Rattle.tg_word.specs.declared.Place.{Place}
use Rattle.tg_space.specs.Generations.{NamesYoung}
use Rattle.tg_evac.specs.Copies.{IsPlaceIn, new_cell}
use Rattle.tg_evac.proofs.notes.note_block.Given as goal

abbrev pub invariant-loop-cell : goal.invariant-loop-cell
invariant-loop-cell l =
    (p : Place) → Contains l.remembered.places p ↔ (Contains l.initial.remembered.places p ⊎ (IsPlaceIn 0 l.kept l.blocks p × (p.block ≡ l.kept + l.block) × (p.cell < l.cell) × NamesYoung (new_cell l.kept l.blocks p)))
