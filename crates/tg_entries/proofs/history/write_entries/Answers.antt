use Rattle.tg_entries.specs.Texts.{entry_text}
use Rattle.tg_saved.proofs.WriteLaws.{sofar_more, cut_more}
use Rattle.tg_entries.proofs.history.write_entries.Goals as goal

pub loop-entry-preserved : goal.loop-entry-preserved
loop-entry-preserved g c = sofar_more entry_text c.args.entries.now c.loop-entry.entry-index c.entry-item.result _ _ _ _ _ _ c.loop-entry-test.true c.entry-item.is c.loop-entry.invariant c.in_ok-write_entry.ensures

pub returns-in_err-write_entry : goal.returns-in_err-write_entry
returns-in_err-write_entry g c = cut_more entry_text c.args.entries.now c.loop-entry.entry-index c.entry-item.result _ _ _ _ _ _ _ c.loop-entry-test.true c.entry-item.is c.from_residual.ensures.0 c.loop-entry.invariant c.in_err-write_entry.ensures
