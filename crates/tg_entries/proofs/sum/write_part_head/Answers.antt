use Rattle.tg_text.proofs.SinkLaws.{writes_then, writes_cut_first}
use Rattle.tg_entries.proofs.sum.write_part_head.Goals as goal

pub returns : goal.returns
returns g c = writes_then _ _ _ _ _ _ _ _ _ c.in_ok-write_snapshot.ensures c.write_sum.ensures

pub returns-in_err-write_snapshot : goal.returns-in_err-write_snapshot
returns-in_err-write_snapshot g c = writes_cut_first _ _ _ _ _ _ _ c.from_residual.ensures.0 c.in_err-write_snapshot.ensures
