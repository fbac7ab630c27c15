use Rattle.std.proofs.Common.{◌≡◌, false, refl}
use Rattle.std.specs.Prelude.{is_some}
use Rattle.tg_script.specs.declared.parts.ScriptRun.{ScriptRun}
use Rattle.tg_script.proofs.LinesLaws.{keeps_known}
use Rattle.tg_script.proofs.RunPartLaws.{first_came}
use Rattle.tg_script.proofs.parts.ScriptRun.take_first.Goals as goal

pub returns-clause-first : goal.returns-clause-first
returns-clause-first g c = λ bytes before leaves took.
    let old = c.args.self.now in
    let next = c.in_ok-self.ensures in
    let n = next.bytes bytes leaves in
    let none : is_some old.begun.first ≡ false = cc in
    let new : ScriptRun g.row.P.Denot = record { begun = record { run = old.begun.run; script = c.next.new.self; first = c.in_ok-self.field-0 } } in (
      n.0,
      n.1,
      (
        first_came old new _ bytes n.0 none next.follows next.passed n.2 refl refl refl refl,
        keeps_known (g.K.Sink.taken c.args.sink.now) (g.K.Sink.taken c.next.new.sink) before took next.reading.taken,
      ),
    )
