use Rattle.std.proofs.Common.{None, subst, sym}
use Rattle.tg_store.specs.Store.{StoreState}
use Rattle.tg_script.specs.declared.parts.ScriptRun.{ScriptRun}
use Rattle.tg_script.specs.Parts.{IsOnStore}
use Rattle.tg_lasting.specs.Answering.{KeptEnded}
use Rattle.tg_lasting.proofs.EndLaws.{one_run, ready_on}
use Rattle.tg_lasting.proofs.kept.run_kept.Goals as goal

pub run_to_close-outcome-requires-clause-script : goal.run_to_close-outcome-requires-clause-script
run_to_close-outcome-requires-clause-script g c =
    ready_on g.D.Disk c.args.start.left c.into_parts-store.result.store (record { run = c.on.result; file = c.into_parts-store.result.file; reason = None }) c.on.ensures c.requires.waits c.into_parts-store.ensures.kept

pub returns : goal.returns
returns g c = λ r bytes before is leaves took.
    let w = g.W.Watch.refused in
    let ended = c.run_to_close-outcome in
    let start = c.args.start in
    let S : StoreState → Type 0 = λ s. IsOnStore start.left s c.on.result in
    let same = one_run start.left start.kept.store r c.on.result is (subst S c.into_parts-store.ensures.store c.on.ensures) in
    let R : ScriptRun g.row.P.Denot → Type 0 = λ x. KeptEnded g.D.Disk x bytes before (w c.args.watch.now) ended.result ended.new.on.file.disk (g.K.Sink.taken ended.new.sink) (w ended.new.watch) in
    subst R (sym same) (ended.ensures bytes before leaves took)
