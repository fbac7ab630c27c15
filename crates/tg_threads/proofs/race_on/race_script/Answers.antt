use Rattle.std.proofs.Common.{◌+◌, ◌∙◌, ap}
use Rattle.tg_script.proofs.LinesLaws.{keeps_known}
use Rattle.tg_threads.proofs.RaceLaws.{same_reads, same_writes, unread_on, wrote_on}
use Rattle.tg_threads.proofs.race_on.race_script.Goals as goal

pub returns-in-Ok-clause-output : goal.returns-in-Ok-clause-output
returns-in-Ok-clause-output g c = λ bytes before known taken.
    let k = g.K.Sink in
    let read = c.in-Ok.ensures.bytes bytes known in
    let kept = keeps_known (k.taken c.args.sink.now) (k.taken c.read_lines.new.sink) before taken c.in-Ok.ensures.silent.keeps in
    (read.0, read.1, wrote_on c.race_lines.result g.T.RaceTelling.race_text_on c.args.on.from bytes before read.0 read.2.0 c.in-Ok.lines.items (k.taken c.race_lines.new.sink) read.2.1 read.2.2 (c.race_lines.ensures.told before kept))

pub returns-in-Err-clause-output : goal.returns-in-Err-clause-output
returns-in-Err-clause-output g c = λ bytes before known taken.
    let k = g.K.Sink in
    let read = c.read_lines.ensures.bytes bytes known in
    let kept = keeps_known (k.taken c.args.sink.now) (k.taken c.read_lines.new.sink) before taken c.read_lines.ensures.silent.keeps in
    (read.0, read.1, unread_on c.read_lines.result c.in-Err.fault g.T.RaceTelling.race_text_on c.args.on.from bytes before read.0 (k.taken c.read_lines.new.sink) c.in-Err.is read.2 kept)

pub returns-in-Err-clause-counts : goal.returns-in-Err-clause-counts
returns-in-Err-clause-counts g c =
    let counts = c.read_lines.ensures.silent.counts in
    record {
      asked = counts.asked;
      read_failed = counts.read_failed ∙ ap (λ n. g.S.Source.failures c.args.source.now + n) (same_reads c.read_lines.result c.in-Err.fault c.in-Err.is);
      write_failed = counts.write_failed ∙ ap (λ n. g.K.Sink.failures c.args.sink.now + n) (same_writes c.read_lines.result c.in-Err.fault c.in-Err.is);
    }
