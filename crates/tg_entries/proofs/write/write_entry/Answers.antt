use Rattle.tg_text.proofs.SinkLaws.{writes_then, writes_cut_first}
use Rattle.tg_entries.proofs.write.write_entry.Goals as goal

pub returns : goal.returns
returns g c = writes_then _ _ _ _ _ _ _ _ _ c.in_ok-write_deed.ensures c.write_answered.ensures

pub returns-in_err-write_deed : goal.returns-in_err-write_deed
returns-in_err-write_deed g c = writes_cut_first _ _ _ _ _ _ _ c.from_residual.ensures.0 c.in_err-write_deed.ensures
