use Rattle.tg_text.proofs.SinkLaws.{writes_then, writes_cut_first}
use Rattle.tg_saved.proofs.write.write_parts.Goals as goal

pub returns : goal.returns
returns g c = writes_then _ _ _ _ _ _ _ _ _ c.in_ok-write_unended.ensures (rw c.edges-edges.ensures at c.write_snapshot_end.ensures)

pub returns-in_err-write_unended : goal.returns-in_err-write_unended
returns-in_err-write_unended g c = writes_cut_first _ _ _ _ _ _ _ c.from_residual.ensures.0 c.in_err-write_unended.ensures
