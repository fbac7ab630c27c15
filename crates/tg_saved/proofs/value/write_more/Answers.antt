use Rattle.std.proofs.Common.{[]}
use Rattle.tg_text.proofs.SinkLaws.{writes_cut_at}
use Rattle.tg_saved.specs.Values.{more_text}
use Rattle.tg_saved.proofs.value.write_more.Goals as goal

pub returns-in_err-write_number : goal.returns-in_err-write_number
returns-in_err-write_number g c = writes_cut_at more_text c.args.numbers.now c.loop-number.number-index 0 [] _ _ _ _ _ _ _ c.loop-number-test.true c.from_residual.ensures.0 c.loop-number.invariant c.in_err-write_number.ensures
