-- What is taken of a line that is read piece by piece: of the bytes at hand, and then of those that a reader has left.
use Rattle.std.specs.Prelude.{◌≡◌, ℕ, List, ◌++◌, Option}
use Rattle.std.specs.Io.KnownBytes.{Consumes}

-- the next bytes that the reader had left were put after those at hand
pub record FetchesPiece (held : List ℕ) (left : Option (List ℕ)) (held' : List ℕ) (left' : Option (List ℕ)) : Type 0 where
  pub piece : List ℕ
  pub taken : Consumes left left' piece
  pub held_is : held' ≡ held ++ piece

-- the text came next, and was taken
pub record Loses (held : List ℕ) (left : Option (List ℕ)) (text held' : List ℕ) (left' : Option (List ℕ)) : Type 0 where
  pub piece : List ℕ
  pub taken : Consumes left left' piece
  pub same : held ++ piece ≡ text ++ held'
