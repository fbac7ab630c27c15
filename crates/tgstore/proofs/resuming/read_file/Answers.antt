use Rattle.std.specs.Io.Buffered.{reader_remaining}
use Rattle.tgstore.proofs.ResumedLaws.{text_known}
use Rattle.tgstore.proofs.StrictLaws.{new_reader}
use Rattle.tgstore.proofs.resuming.read_file.Goals as goal

pub returns : goal.returns
returns g c =
    let reader = c.in_ok-reader.reader in
    text_known c.read_history.result (g.F.Read.remaining c.args.file) (reader_remaining g.F.Read.remaining reader)
    (new_reader reader c.args.file g.F.Read.remaining c.in_ok-reader.ensures.inner c.in_ok-reader.ensures.empty c.in_ok-reader.ensures.capacity)
    c.read_history.ensures.read
