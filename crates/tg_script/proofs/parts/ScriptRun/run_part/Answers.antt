use Rattle.std.proofs.Common.{None, refl, subst, sym}
use Rattle.tg_script.specs.declared.parts.ScriptRun.{ScriptRun}
use Rattle.tg_script.specs.declared.run.Run.{Run}
use Rattle.tg_script.specs.Parts.{scene_in}
use Rattle.tg_script.specs.Inner.Run.{Shows}
use Rattle.tg_script.proofs.GoingLaws.{legal_since}
use Rattle.tg_script.proofs.LinesLaws.{err_is}
use Rattle.tg_script.proofs.MarkLaws.{on_ok}
use Rattle.tg_script.proofs.RunPartLaws.{part_ran, part_unbegun}
use Rattle.tg_script.proofs.parts.ScriptRun.run_part.Goals as goal

pub returns-in_err-take_first-clause-ran : goal.returns-in_err-take_first-clause-ran
returns-in_err-take_first-clause-ran g c = λ bytes before leaves took.
    let n = c.in_err-take_first.ensures.first bytes before leaves took in
    let saw = g.W.Watch.refused c.args.watch.now in
    rw (err_is c.from_residual.result _ c.from_residual.ensures.1)
    (n.0, n.1, part_unbegun (Unit {0}) c.args.self.now c.take_first.new.self c.in_err-take_first.field-0.0 bytes before n.0 (g.K.Sink.taken c.take_first.new.sink) saw saw c.in_err-take_first.ensures.run n.2.0 n.2.1)

pub returns-clause-ran : goal.returns-clause-ran
returns-clause-ran g c = λ bytes before leaves took.
    let old = c.args.self.now in
    let mid = c.take_first.new.self in
    let lines = c.run_commands-outcome in
    let first = c.in_ok-take_first.ensures in
    let n = first.first bytes before leaves took in
    let w = g.W.Watch.refused in
    let k = g.K.Sink.taken in
    let scene = scene_in old in
    let new : ScriptRun g.row.P.Denot = record { begun = record lines.new.begun { first = None } } in
    let S : Run g.row.P.Denot → Type 0 = λ r. Shows r scene in
    let shows = subst S (sym first.run) (refl, refl, refl) in
    part_ran old mid new bytes n.0 before (g.S.Source.left lines.new.source) (k lines.new.sink) (w c.args.watch.now) (w lines.new.watch) n.2.0 first.run lines.ensures.kept
    (legal_since mid.begun.run.store.opening new.begun.run.store.opening mid.begun.run.store.entries new.begun.run.store.entries scene.graph shows.0 lines.ensures.kept c.journal.ensures.faithful.legal)
    first.waits refl lines.ensures.stock lines.result
    (lines.ensures.written scene n.0 before shows n.1 n.2.1)
    (on_ok lines.result (λ had. had scene n.0 before shows n.1 n.2.1) lines.ensures.seen)
    (on_ok lines.result (λ had. had n.0 n.1) lines.ensures.passed)
