use Rattle.tg_entries.proofs.SumLaws.{summed_all}
use Rattle.tg_entries.proofs.summed.Summed.sum.Goals as goal

pub returns : goal.returns
returns g c = λ end.
    summed_all g.T.Tape.whole (g.R.Read.remaining c.args.self.inner) c.args.self.sum c.finalize.result c.args.self.so_far end c.finalize.ensures
