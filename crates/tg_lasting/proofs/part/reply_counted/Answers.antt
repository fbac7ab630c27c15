use Rattle.std.proofs.Common.{[], Some, ap, ◌≡◌, ◌+◌, arith}
use Rattle.tg_script.specs.Lines.{read_failures}
use Rattle.tg_lasting.proofs.part.reply_counted.Goals as goal

pub returns-clause-ran : goal.returns-clause-ran
returns-clause-ran g c =
    let run = c.run_part-outcome in
    let ran = run.ensures.ran c.args.chunk.now [] (ap Some c.new-source.ensures.bytes) (ap Some c.new-sink.ensures.bytes) in
    let none : 0 ≡ 0 + read_failures run.result = run.ensures.read_failed in
    record {
      ran = (ran.0, ran.2);
      met = run.ensures.fault;
      read = λ is. let one : read_failures run.result ≡ 1 = ap read_failures is in absurd (omega (arith, none, one));
    }
