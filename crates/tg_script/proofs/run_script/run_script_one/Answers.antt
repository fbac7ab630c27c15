use Rattle.std.proofs.Common.{ℕ, subst}
use Rattle.tg_script.specs.Running.{RunsFrom}
use Rattle.tg_script.specs.Script.{start_with}
use Rattle.tg_script.proofs.run_script.run_script_one.Goals as goal

pub returns-clause-ran : goal.returns-clause-ran
returns-clause-ran g c =
    let s = g.S.Source in
    let new = c.run_script_with.new in
    let P : ℕ → Type 0 = λ n. RunsFrom s.left s.asked s.failures g.K.Sink.taken c.args.source.now new.source c.args.sink.now new.sink
    (start_with (record c.args.settings { helpers = n }) c.args.workers.items c.args.stock.items) c.run_script_with.result in
    subst P c.one.ensures c.run_script_with.ensures.ran
