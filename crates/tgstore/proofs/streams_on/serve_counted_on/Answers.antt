use Rattle.std.proofs.Common.{rules}
use Rattle.tgstore.proofs.ResumedLaws.{serves_from, serves_on}
use Rattle.tgstore.proofs.StrictLaws.{lax_status}
use Rattle.tgstore.proofs.streams_on.serve_counted_on.Goals as goal

pub returns-clause-served : goal.returns-clause-served
returns-clause-served g c =
    let start = c.args.start.now in
    let run = c.go_on-outcome in
    let status = c.strict_status-status.result in
    let old = c.new-watch.result in
    let left = g.R.Read.remaining c.new-source.result.source.reader in
    let left' = g.R.Read.remaining run.new.source.source.reader in
    let taken = g.W.Write.contents c.new-sink.result.writer in
    let taken' = g.W.Write.contents run.new.sink.writer in
    serves_from (g.R.Read.remaining c.args.streams.reader) left left' (g.W.Write.contents c.args.streams.writer) taken taken' start c.args.from run.result status (search rules) (search rules)
    (serves_on left left' taken taken' start c.args.from old.is_strict old.has_refused run.new.watch.is_strict run.new.watch.has_refused run.result status c.new-watch.ensures.strict c.new-watch.ensures.none c.strict_status-status.ensures run.ensures)

pub returns-clause-lax : goal.returns-clause-lax
returns-clause-lax g c = lax_status c.args.start.now.strict c.go_on-outcome.new.watch.has_refused c.strict_status-status.result c.strict_status-status.ensures
