use Rattle.tg_text.proofs.SinkLaws.{writes_then, writes_cut_first}
use Rattle.tg_saved.proofs.value.write_log.Goals as goal

pub returns : goal.returns
returns g c = writes_then _ _ _ _ _ _ _ _ _ (rw c.from.ensures at c.in_ok-write_number.ensures) c.write_logged.ensures

pub returns-in_err-write_number : goal.returns-in_err-write_number
returns-in_err-write_number g c = writes_cut_first _ _ _ _ _ _ _ c.from_residual.ensures.0 (rw c.from.ensures at c.in_err-write_number.ensures)
