use Rattle.std.proofs.Common.{[], Some, ap, ◌≡◌, ◌+◌, arith}
use Rattle.tg_script.specs.Lines.{read_failures}
use Rattle.tg_script.proofs.run_script.run_counted.Goals as goal

pub returns : goal.returns
returns g c =
    let run = c.run_script_with-outcome in
    let ran = run.ensures.ran.output c.args.script.now [] (ap Some c.new-source.ensures.bytes) (ap Some c.new-sink.ensures.bytes) in
    let none : 0 ≡ 0 + read_failures run.result = run.ensures.ran.read_failed in
    record {
      ran = record {
        output = (ran.0, ran.2);
        due = run.ensures.ran.due;
        read = λ is. let one : read_failures run.result ≡ 1 = ap read_failures is in absurd (omega (arith, none, one));
      };
    }
