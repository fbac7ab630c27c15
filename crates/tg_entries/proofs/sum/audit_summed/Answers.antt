use Rattle.tg_entries.proofs.SumLaws.{head_summed}
use Rattle.tg_entries.proofs.sum.audit_summed.Goals as goal

pub returns : goal.returns
returns g c =
    head_summed c.in_ok-buffered.buffered c.audit_to_snapshot.new.reader (λ s. g.R.Read.remaining s.inner) c.new-summed.result c.into_inner.result g.T.Tape.whole
    (g.R.Read.remaining c.args.reader) (record { snapshot = c.in_ok-snapshot.snapshot; sum = c.sum-sum.result }) c.in_ok-buffered.ensures.capacity
    c.in_ok-buffered.ensures.empty c.in_ok-buffered.ensures.inner c.new-summed.ensures c.requires c.in_ok-snapshot.ensures.saved c.in_ok-snapshot.ensures.all
    c.into_inner.ensures c.sum-sum.ensures
