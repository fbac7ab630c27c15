-- Which cells of Old are noted after a collection: those that name young ones then.
use Rattle.std.specs.Prelude.{◌≡◌, ◌+◌, ◌↔◌, ◌⊎◌, ℕ, List}
use Rattle.std.specs.List.{Contains}
use Rattle.tg_word.specs.declared.Place.{Place}
use Rattle.tg_space.specs.Generations.{NamesYoung}
use Rattle.tg_space.specs.SpaceList.{BlockList}
use Rattle.tg_space.specs.declared.root.Root.{Root}
use Rattle.tg_space.specs.declared.root.Root.TheVariants.{Remembered}
use Rattle.tg_evac.specs.declared.notes.Made.{Made}
use Rattle.tg_evac.specs.Copies.{IsPlaceIn, moved_cell, new_cell}

-- the words of the cell at a place, as a collection has made them
abbrev pub made_cell : Made → Place → List ℕ
made_cell made p = moved_cell made.moves.kind made.spaces.now.spaces made.moves.forward.now.words p

-- the cell is remembered, and names a young one
abbrev pub IsYoungRoot : Made → List Root → Place → Type 0
IsYoungRoot made roots p = Contains roots (Remembered p) × NamesYoung (made_cell made p)

-- the cell is in one of these blocks of Old, after as many others, and names a young one
abbrev pub IsYoungIn : ℕ → BlockList → Place → Type 0
IsYoungIn kept blocks p = IsPlaceIn 0 kept blocks p × NamesYoung (new_cell kept blocks p)

-- the same of the block with this number
abbrev pub IsYoungInBlock : ℕ → BlockList → ℕ → Place → Type 0
IsYoungInBlock kept blocks block p = IsPlaceIn 0 kept blocks p × (p.block ≡ kept + block) × NamesYoung (new_cell kept blocks p)

-- the places are those that there were, and these
abbrev pub AddsNotes : (Place → Type 0) → List Place → List Place → Type 0
AddsNotes noted old new = (p : Place) → Contains new p ↔ (Contains old p ⊎ noted p)
