use Rattle.tg_text.proofs.SinkLaws.{writes_then, writes_cut_first}
use Rattle.tg_entries.proofs.history.write_history.Goals as goal

pub returns : goal.returns
returns g c = writes_then _ _ _ _ _ _ _ _ _ c.in_ok-write_unended.ensures c.write_end.ensures

pub returns-in_err-write_unended : goal.returns-in_err-write_unended
returns-in_err-write_unended g c = writes_cut_first _ _ _ _ _ _ _ c.from_residual.ensures.0 c.in_err-write_unended.ensures
