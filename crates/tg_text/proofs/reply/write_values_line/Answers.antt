use Rattle.tg_text.proofs.SinkLaws.{writes_cut_first, writes_then}
use Rattle.tg_text.proofs.reply.write_values_line.Goals as goal

pub returns-in_err-write_values : goal.returns-in_err-write_values
returns-in_err-write_values g c = writes_cut_first _ _ _ _ _ _ _ c.from_residual.ensures.0 c.in_err-write_values.ensures

pub returns : goal.returns
returns g c = writes_then _ _ _ _ _ _ _ _ _ c.in_ok-write_values.ensures c.end_line.ensures
