use Rattle.tg_text.proofs.SinkLaws.{writes_then, writes_cut_first}
use Rattle.tg_saved.proofs.value.write_value_line.Goals as goal

pub returns : goal.returns
returns g c = writes_then _ _ _ _ _ _ _ _ _ (rw c.as_slice.ensures at c.in_ok-write_value.ensures) c.put_all.ensures

pub returns-in_err-write_value : goal.returns-in_err-write_value
returns-in_err-write_value g c = writes_cut_first _ _ _ _ _ _ _ c.from_residual.ensures.0 (rw c.as_slice.ensures at c.in_err-write_value.ensures)
