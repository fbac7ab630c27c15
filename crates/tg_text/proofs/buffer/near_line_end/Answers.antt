use Rattle.std.proofs.Common.{arith}
use Rattle.tg_text.proofs.NearLaws.{ends_near}
use Rattle.tg_text.proofs.buffer.near_line_end.Goals as goal

pub returns : goal.returns
returns c = ends_near c.args.bytes.now 32 c.memchr.result (omega (arith, c.if-bytes-lt-NEAR.false)) c.memchr.ensures
