-- What contracts see of `ForwardingTable` and of `Forwarding`: the forwarding word of each cell, by its flat number, and how
-- many of the first cells have none.
use Rattle.std.specs.Prelude.{ℕ, List}
use Rattle.tg_space.specs.declared.forwarding.Words.{Words}
use Rattle.tg_space.specs.declared.forwarding.Words.TheVariants.{Closed, Listed}

pub record ForwardingWords : Type 0 where
  pub skipped : ℕ
  pub words : List ℕ

-- the words, wherever they stand
abbrev pub words_in : Words → List ℕ
words_in (Listed words) = words.items
words_in (Closed words room) = words
