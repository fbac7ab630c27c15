-- What contracts see of the cells of a long row.
use Rattle.std.specs.Prelude.{ℕ, List}
use Rattle.tg_word.specs.declared.Place.{Place}

-- The cells, in chain order. There is room for `spare` more.
pub record CellList : Type 0 where
  pub items : List Place
  pub spare : ℕ
