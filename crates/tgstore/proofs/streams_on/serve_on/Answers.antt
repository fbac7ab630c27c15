use Rattle.std.specs.Io.Buffered.{reader_remaining, writer_contents}
use Rattle.tgstore.proofs.ResumedLaws.{serves_from}
use Rattle.tgstore.proofs.StrictLaws.{new_reader, new_writer}
use Rattle.tgstore.proofs.streams_on.serve_on.Goals as goal

pub returns-clause-served : goal.returns-clause-served
returns-clause-served g c =
    let ended = c.serve_counted_on.result in
    serves_from (g.R.Read.remaining c.args.reader) (reader_remaining g.R.Read.remaining c.in-Ok.reader) (reader_remaining g.R.Read.remaining ended.reader)
    (g.W.Write.contents c.args.writer) (writer_contents g.W.Write.contents c.in-Ok-with_capacity.writer) (writer_contents g.W.Write.contents ended.writer)
    c.args.start.now c.args.from ended.outcome ended.status
    (new_reader c.in-Ok.reader c.args.reader g.R.Read.remaining c.in-Ok.ensures.inner c.in-Ok.ensures.empty c.in-Ok.ensures.capacity)
    (new_writer c.in-Ok-with_capacity.writer c.args.writer g.W.Write.contents c.in-Ok-with_capacity.ensures.inner c.in-Ok-with_capacity.ensures.empty)
    c.serve_counted_on.ensures.served
