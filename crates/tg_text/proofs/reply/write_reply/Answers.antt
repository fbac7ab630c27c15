use Rattle.tg_text.proofs.SinkLaws.{writes_then, writes_cut_first}
use Rattle.tg_text.proofs.reply.write_reply.Goals as goal

pub returns-in_ok-write_told-in_default : goal.returns-in_ok-write_told-in_default
returns-in_ok-write_told-in_default g c = writes_then _ _ _ _ _ _ _ _ _ c.in_ok-write_told-in_default.ensures c.end_line.ensures

pub returns-in_err-write_told-in_default : goal.returns-in_err-write_told-in_default
returns-in_err-write_told-in_default g c = writes_cut_first _ _ _ _ _ _ _ c.from_residual.ensures.0 c.in_err-write_told-in_default.ensures
