-- Links of cells to chunks.
use Rattle.std.specs.Prelude.{◌≡◌, ◌≢◌, ◌<◌, ℕ, length}
use Rattle.tg_space.specs.Rows.{link_of}
use Rattle.tg_space.specs.SpaceList.{SpaceList, cells_of}
use Rattle.tg_space.specs.Targets.{cell_numbered}

-- no two cells have one link
abbrev pub HaveOwnLinks : SpaceList → Type 0
HaveOwnLinks h = (c d : ℕ) → c < length (cells_of h) → d < length (cells_of h) →
    link_of (cell_numbered h c) ≢ 0 → link_of (cell_numbered h c) ≡ link_of (cell_numbered h d) → c ≡ d
