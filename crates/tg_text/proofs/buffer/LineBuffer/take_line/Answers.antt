use Rattle.std.proofs.Common.{arith}
use Rattle.tg_text.proofs.NearLaws.{kept_near}
use Rattle.tg_text.proofs.buffer.LineBuffer.take_line.Goals as goal

pub returns-in-Some-clause-taken : goal.returns-in-Some-clause-taken
returns-in-Some-clause-taken c =
    let at = c.in-Some.at in
    let near = c.in-Some.ensures in (
      c.if-at-most.true,
      omega (arith, near.0, near.1),
      near.2,
      kept_near c.args.bytes.now c.copy_from_slice.new.self _ 32 at near.0 near.1 c.copy_from_slice.ensures.after,
    )
