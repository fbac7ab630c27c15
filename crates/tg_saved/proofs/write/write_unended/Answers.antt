use Rattle.tg_text.proofs.SinkLaws.{writes_then, writes_cut_first}
use Rattle.tg_saved.proofs.write.write_unended.Goals as goal

pub returns : goal.returns
returns g c = writes_then _ _ _ _ _ _ _ _ _ c.in_ok-write_shown.ensures (rw c.edges.ensures at c.write_edges.ensures)

pub returns-in_err-write_shown : goal.returns-in_err-write_shown
returns-in_err-write_shown g c = writes_cut_first _ _ _ _ _ _ _ c.from_residual.ensures.0 c.in_err-write_shown.ensures
