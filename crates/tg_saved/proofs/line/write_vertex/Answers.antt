use Rattle.tg_text.proofs.SinkLaws.{writes_then, writes_cut_first}
use Rattle.tg_saved.proofs.line.write_vertex.Goals as goal

pub returns : goal.returns
returns g c = writes_then _ _ _ _ _ _ _ _ _ c.in_ok-write_name.ensures c.write_value_line.ensures

pub returns-in_err-write_name : goal.returns-in_err-write_name
returns-in_err-write_name g c = writes_cut_first _ _ _ _ _ _ _ c.from_residual.ensures.0 c.in_err-write_name.ensures
