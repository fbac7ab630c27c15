use Rattle.tg_text.proofs.SinkLaws.{writes_then, writes_cut_first}
use Rattle.tg_saved.proofs.line.write_edge.Goals as goal

pub returns : goal.returns
returns g c = writes_then _ _ _ _ _ _ _ _ _ c.in_ok-write_line.ensures c.put_all.ensures

pub returns-in_err-write_line : goal.returns-in_err-write_line
returns-in_err-write_line g c = writes_cut_first _ _ _ _ _ _ _ c.from_residual.ensures.0 c.in_err-write_line.ensures
