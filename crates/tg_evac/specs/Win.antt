-- A cell that a collection copies, and where to.
use Rattle.std.specs.Prelude.{ℕ}

-- the cell's flat number, and its forwarding word: a link to its new place
pub record Win : Type 0 where
  pub cell : ℕ
  pub word : ℕ
