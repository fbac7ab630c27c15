use Rattle.tg_text.proofs.SinkLaws.{writes_then, writes_cut_first}
use Rattle.tg_saved.proofs.write.write_shown.Goals as goal

pub returns : goal.returns
returns g c = writes_then _ _ _ _ _ _ _ _ _ c.in_ok-write_named.ensures c.write_vertices.ensures

pub returns-in_err-write_named : goal.returns-in_err-write_named
returns-in_err-write_named g c = writes_cut_first _ _ _ _ _ _ _ c.from_residual.ensures.0 c.in_err-write_named.ensures
