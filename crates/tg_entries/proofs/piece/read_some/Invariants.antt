use Rattle.std.proofs.Common.{◌≤◌, length}
use Rattle.tg_entries.specs.Pieces.{FetchesPiece}
use Rattle.tg_entries.proofs.piece.read_some.Given as goal

abbrev pub invariant-loop : goal.invariant-loop
invariant-loop g l =
    let left = g.R.Read.remaining in
    record {
      fetched : FetchesPiece l.fn.line.items (left l.fn.reader) l.line.items (left l.reader);
      within : length l.fn.line.items ≤ l.most → length l.line.items ≤ l.most;
    }
