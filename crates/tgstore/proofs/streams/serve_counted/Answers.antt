use Rattle.std.proofs.Common.{rules}
use Rattle.tgstore.proofs.StrictLaws.{has_status, lax_status, status_from}
use Rattle.tgstore.proofs.streams.serve_counted.Goals as goal

pub returns-clause-strict : goal.returns-clause-strict
returns-clause-strict g c =
    let start = c.args.start.now in
    let run = c.serve_with_boxes-outcome in
    let status = c.strict_status-status.result in
    let old = c.new-watch.result in
    let left = g.R.Read.remaining c.new-source.result.source.reader in
    let left' = g.R.Read.remaining c.serve_with_boxes-outcome.new.source.source.reader in
    let taken = g.W.Write.contents c.new-sink.result.writer in
    let taken' = g.W.Write.contents c.serve_with_boxes-outcome.new.sink.writer in
    status_from (g.R.Read.remaining c.args.reader) left left' (g.W.Write.contents c.args.writer) taken taken' start run.result status (search rules) (search rules)
    (has_status left left' taken taken' start old.is_strict old.has_refused run.new.watch.is_strict run.new.watch.has_refused run.result status c.new-watch.ensures.strict c.new-watch.ensures.none c.strict_status-status.ensures run.ensures.seen)

pub returns-clause-lax : goal.returns-clause-lax
returns-clause-lax g c = lax_status c.args.start.now.strict c.serve_with_boxes-outcome.new.watch.has_refused c.strict_status-status.result c.strict_status-status.ensures
