use Rattle.std.proofs.Common.{◌<◌, arith, length}
use Rattle.tg_script.proofs.LinesLaws.{err_is}
use Rattle.tg_lasting.proofs.ChunkLaws.{end_came, held_failed, lines_came, long_came, no_pieces, piece_more}
use Rattle.tg_lasting.proofs.chunk.next_chunk.Goals as goal

pub pieces-init : goal.pieces-init
pieces-init g c = λ bytes leaves. no_pieces bytes c.clear.new.self.items (g.R.Read.remaining c.args.reader.now) c.clear.ensures.items leaves

pub returns-in_err-take_held-clause-came : goal.returns-in_err-take_held-clause-came
returns-in_err-take_held-clause-came g c = λ bytes leaves.
    rw (err_is c.from_residual.result _ c.from_residual.ensures.1)
    (held_failed bytes c.pieces.chunk.items c.take_held.new.chunk.items (g.R.Read.remaining c.pieces.reader) (g.R.Read.remaining c.take_held.new.reader) c.in_err-take_held.field-0.0 (c.pieces.invariant bytes leaves) c.in_err-take_held.ensures.taken)

pub returns-in-Lines-clause-came : goal.returns-in-Lines-clause-came
returns-in-Lines-clause-came g c = λ bytes leaves.
    let taken = rw c.in-Lines.is at c.in_ok-take_held.ensures.taken in
    lines_came bytes c.pieces.chunk.items c.take_held.new.chunk.items (g.R.Read.remaining c.pieces.reader) (g.R.Read.remaining c.take_held.new.reader) (c.pieces.invariant bytes leaves) taken

pub returns-in-End-clause-came : goal.returns-in-End-clause-came
returns-in-End-clause-came g c = λ bytes leaves.
    let taken = rw c.in-End.is at c.in_ok-take_held.ensures.taken in
    end_came bytes c.pieces.chunk.items c.take_held.new.chunk.items (g.R.Read.remaining c.pieces.reader) (g.R.Read.remaining c.take_held.new.reader) (c.pieces.invariant bytes leaves) taken

pub pieces-preserved : goal.pieces-preserved
pieces-preserved g c = λ bytes leaves.
    let taken = rw c.in-Piece.is at c.in_ok-take_held.ensures.taken in
    piece_more bytes c.pieces.chunk.items c.take_held.new.chunk.items (g.R.Read.remaining c.pieces.reader) (g.R.Read.remaining c.take_held.new.reader) (c.pieces.invariant bytes leaves) taken

pub returns-clause-came : goal.returns-clause-came
returns-clause-came g c = λ bytes leaves.
    let long : 256 < length c.pieces.chunk.items = omega (arith, c.pieces-test.false, c.len.ensures) in
    long_came bytes c.pieces.chunk.items (g.R.Read.remaining c.pieces.reader) long (c.pieces.invariant bytes leaves)
