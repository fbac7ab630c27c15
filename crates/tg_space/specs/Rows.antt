-- The row of an object: its own cell, and the chunks to which its link leads.
use Rattle.std.specs.Prelude.{ℕ, zero, suc, ◌==◌, if◌then◌else◌, List, [], ◌∷◌, length, slice_index}
use Rattle.tg_block.specs.declared.TheConstants.{LINK}
use Rattle.tg_word.specs.declared.Place.{Place}
use Rattle.tg_word.specs.Word.{place_in}
use Rattle.tg_space.specs.SpaceList.{SpaceList, cell_at, cells_of}

-- the link of an object or a chunk
abbrev pub link_of : List ℕ → ℕ
link_of words = slice_index words LINK

-- the link of the cell at a place
abbrev pub link_at : SpaceList → Place → ℕ
link_at h p = link_of (cell_at h p)

-- the chunks to which a link leads, one after the other, at most so many
abbrev pub chunks_from : SpaceList → ℕ → ℕ → List Place
chunks_from h zero link = []
chunks_from h (suc most) link = if link == 0 then [] else place_in link ∷ chunks_from h most (link_at h (place_in link))

-- the cells of the row; a row has no more chunks than there are cells
abbrev pub row_of : SpaceList → Place → List Place
row_of h p = p ∷ chunks_from h (length (cells_of h)) (link_at h p)
