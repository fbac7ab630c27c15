use Rattle.tg_text.proofs.SinkLaws.{writes_then, writes_cut_first}
use Rattle.tg_entries.proofs.history.write_unended.Goals as goal

pub returns : goal.returns
returns g c = writes_then _ _ _ _ _ _ _ _ _ c.in_ok-write_opening.ensures c.write_entries.ensures

pub returns-in_err-write_opening : goal.returns-in_err-write_opening
returns-in_err-write_opening g c = writes_cut_first _ _ _ _ _ _ _ c.from_residual.ensures.0 c.in_err-write_opening.ensures
