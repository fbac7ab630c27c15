use Rattle.std.proofs.Common.{◌≡◌, ◌-◌, List, Some, length, ℕ}
use Rattle.tg_lasting.proofs.ChunkLaws.{PiecesCame}
use Rattle.tg_lasting.proofs.chunk.next_chunk.Given as goal

abbrev pub invariant-pieces : goal.invariant-pieces
invariant-pieces g l = (bytes : List ℕ) → g.R.Read.remaining l.fn.reader ≡ Some bytes → PiecesCame bytes l.chunk.items (g.R.Read.remaining l.reader)

abbrev pub decreases-pieces : goal.decreases-pieces
decreases-pieces g l = 257 - length l.chunk.items
