use Rattle.tg_entries.specs.Texts.{worker_text}
use Rattle.tg_saved.proofs.WriteLaws.{sofar_more, cut_more}
use Rattle.tg_entries.proofs.history.write_workers.Goals as goal

pub loop-value-preserved : goal.loop-value-preserved
loop-value-preserved g c = sofar_more worker_text c.args.values.now c.loop-value.value-index c.value-item.result _ _ _ _ _ _ c.loop-value-test.true c.value-item.is c.loop-value.invariant c.in_ok-write_worker.ensures

pub returns-in_err-write_worker : goal.returns-in_err-write_worker
returns-in_err-write_worker g c = cut_more worker_text c.args.values.now c.loop-value.value-index c.value-item.result _ _ _ _ _ _ _ c.loop-value-test.true c.value-item.is c.from_residual.ensures.0 c.loop-value.invariant c.in_err-write_worker.ensures
