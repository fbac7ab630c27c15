use Rattle.std.proofs.Common.{subst}
use Rattle.std.specs.Prelude.{IfSome}
use Rattle.tg_entries.specs.Kept.{IsTextOf}
use Rattle.tg_plain.proofs.ReadingLaws.{buffers_all}
use Rattle.tg_plain.proofs.input.history_in.Goals as goal

pub returns : goal.returns
returns g c = λ bytes known.
    let all = buffers_all c.in-Ok.reader c.args.reader g.R.Read.remaining bytes c.in-Ok.ensures.inner c.in-Ok.ensures.empty c.in-Ok.ensures.capacity known in
    subst (λ o. IfSome o (λ text. IsTextOf text c.in_ok-history.history)) all c.in_ok-history.ensures.read
