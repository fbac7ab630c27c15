use Rattle.tg_text.proofs.SinkLaws.{writes_then, writes_cut_first}
use Rattle.tg_saved.proofs.write.write_front.Goals as goal

pub returns : goal.returns
returns g c = writes_then _ _ _ _ _ _ _ _ _ c.in_ok-put_all.ensures (rw (c.made.ensures, c.limit.ensures) at c.write_counts.ensures)

pub returns-in_err-put_all : goal.returns-in_err-put_all
returns-in_err-put_all g c = writes_cut_first _ _ _ _ _ _ _ c.from_residual.ensures.0 c.in_err-put_all.ensures
