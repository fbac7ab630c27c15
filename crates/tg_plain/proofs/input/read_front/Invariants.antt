use Rattle.std.proofs.Common.{[]}
use Rattle.tg_entries.specs.Pieces.{FetchesPiece}
use Rattle.tg_plain.proofs.input.read_front.Given as goal

abbrev pub invariant-loop : goal.invariant-loop
invariant-loop g l = FetchesPiece [] (g.R.Read.remaining l.fn.reader) l.front.items (g.R.Read.remaining l.reader)
