use Rattle.std.proofs.Common.{take}
use Rattle.tg_entries.proofs.SumLaws.{summed_kept, summed_more}
use Rattle.tg_entries.proofs.summed.SummedRead.read.Goals as goal

pub invariant_of-self : goal.invariant_of-self
invariant_of-self g c =
    let left = g.R.Read.remaining in
    let self = c.args.self.now in
    record { so_far = summed_kept g.T.Tape.whole (left self.inner) (left c.read.new.self) self.sum self.so_far c.in_err-count.ensures.bytes }

pub invariant_of-self-2 : goal.invariant_of-self-2
invariant_of-self-2 g c =
    let left = g.R.Read.remaining in
    let self = c.args.self.now in
    record {
      so_far = summed_more g.T.Tape.whole (left self.inner) (left c.read.new.self) self.sum c.update.new.self (take c.in_ok-count.count c.read.new.buf) self.so_far
          c.in_ok-count.ensures.bytes.0 c.update.ensures;
    }
