use Rattle.tg_text.proofs.SinkLaws.{writes_then, writes_cut_first}
use Rattle.tg_saved.proofs.write.write_named.Goals as goal

pub returns : goal.returns
returns g c = writes_then _ _ _ _ _ _ _ _ _ c.in_ok-write_front.ensures (rw c.subjects.ensures at c.write_subjects.ensures)

pub returns-in_err-write_front : goal.returns-in_err-write_front
returns-in_err-write_front g c = writes_cut_first _ _ _ _ _ _ _ c.from_residual.ensures.0 c.in_err-write_front.ensures
