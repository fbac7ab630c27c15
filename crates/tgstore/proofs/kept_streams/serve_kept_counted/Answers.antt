use Rattle.std.proofs.Common.{rules}
use Rattle.tgstore.proofs.KeptLaws.{served_kept}
use Rattle.tgstore.proofs.kept_streams.serve_kept_counted.Goals as goal

pub returns : goal.returns
returns g c = λ r bytes before is leaves took.
    let run = c.run_kept-end in
    let old = c.new-watch.result in
    served_kept g.D.Disk c.args.start.now r bytes before old.is_strict old.has_refused run.new.watch.is_strict run.new.watch.has_refused run.result.outcome c.strict_status-status.result run.result.disk (g.W.Write.contents run.new.sink.writer)
    c.new-watch.ensures.strict c.new-watch.ensures.none c.strict_status-status.ensures (run.ensures r bytes before is leaves (search rules))
