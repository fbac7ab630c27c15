use Rattle.std.proofs.Common.{subst}
use Rattle.tg_store.specs.Store.{StoreState}
use Rattle.tg_kept.specs.Keeping.{LeavesClosedStore, LeavesStore}
use Rattle.tg_lasting.proofs.EndLaws.{closed_end, unclosed_end}
use Rattle.tg_lasting.proofs.KeepingPartLaws.{fault_is}
use Rattle.tg_lasting.proofs.kept.run_to_close.Goals as goal

pub returns-in_err-run_parts : goal.returns-in_err-run_parts
returns-in_err-run_parts g c = λ bytes before leaves took.
    rw (fault_is c.from_residual.result _ c.from_residual.ensures.1) (c.in_err-run_parts.ensures.ran bytes before leaves took)

pub returns-in-Ok : goal.returns-in-Ok
returns-in-Ok g c = λ bytes before leaves took.
    let w = g.W.Watch.refused in
    let ran = c.run_parts in
    let L : StoreState → Type 0 = λ s. LeavesClosedStore g.D.Disk s c.close_entries.new.file.disk in
    closed_end g.D.Disk c.args.on.now ran.new.on (record ran.new.on { file = c.close_entries.new.file }) bytes before (w c.args.watch.now) (w ran.new.watch) (g.K.Sink.taken ran.new.sink) (c.in_ok-run_parts.ensures.ran bytes before leaves took) tt (subst L c.store.ensures c.in-Ok.ensures.closed)

pub returns-in-Err : goal.returns-in-Err
returns-in-Err g c = λ bytes before leaves took.
    let w = g.W.Watch.refused in
    let ran = c.run_parts in
    let L : StoreState → Type 0 = λ s. LeavesStore g.D.Disk s c.close_entries.new.file.disk in
    unclosed_end g.D.Disk c.args.on.now ran.new.on (record ran.new.on { file = c.close_entries.new.file }) bytes before (w c.args.watch.now) (w ran.new.watch) (g.K.Sink.taken ran.new.sink) (c.in_ok-run_parts.ensures.ran bytes before leaves took) c.in-Err.why (subst L c.store.ensures c.close_entries.ensures.left)
