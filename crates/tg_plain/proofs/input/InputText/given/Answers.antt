use Rattle.tg_plain.specs.Past.{IsInputOf}
use Rattle.tg_plain.proofs.PastLaws.{reads_file, reads_reader}
use Rattle.tg_plain.proofs.input.InputText.given.Goals as goal

pub returns-in-Some : goal.returns-in-Some
returns-in-Some g c =
    reads_file g.R.Reader.Read.remaining c.args.options.kept c.in-Some.path c.read_kept.result (IsInputOf c.args.options) c.in-Some.is c.read_kept.ensures

pub returns-in-None : goal.returns-in-None
returns-in-None g c =
    reads_reader g.R.Reader.Read.remaining c.reader.result c.args.options.kept c.read.result (IsInputOf c.args.options) c.in-None.is c.read.ensures
