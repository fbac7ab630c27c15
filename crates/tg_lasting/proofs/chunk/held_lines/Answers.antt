use Rattle.std.proofs.Common.{length, refl}
use Rattle.tg_lasting.proofs.ChunkLaws.{ends_at, one_line_held}
use Rattle.tg_lasting.proofs.chunk.held_lines.Goals as goal

pub returns-in-Some-clause-lines : goal.returns-in-Some-clause-lines
returns-in-Some-clause-lines c = λ ended. ends_at c.args.bytes.now c.in-Some.at c.in-Some.ensures.0.high c.in-Some.ensures.1

pub returns-in-None-clause-piece : goal.returns-in-None-clause-piece
returns-in-None-clause-piece c = λ ended. one_line_held c.args.bytes.now (length c.args.bytes.now) refl c.in-None.ensures
