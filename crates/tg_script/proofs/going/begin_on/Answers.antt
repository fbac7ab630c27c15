use Rattle.std.proofs.Common.{refl}
use Rattle.tg_script.proofs.LinesLaws.{err_is}
use Rattle.tg_script.proofs.going.begin_on.Goals as goal

pub returns-in_err-first-clause-bytes : goal.returns-in_err-first-clause-bytes
returns-in_err-first-clause-bytes g c = λ bytes known.
    rw (err_is c.from_residual.result _ c.from_residual.ensures.1) (c.in_err-first.ensures.bytes bytes known)

pub returns-in_err-first-clause-streams : goal.returns-in_err-first-clause-streams
returns-in_err-first-clause-streams g c =
    let reading = c.in_err-first.ensures.reading in
    rw (err_is c.from_residual.result _ c.from_residual.ensures.1) (record {
      fault = reading.reading.fault;
      failures = reading.reading.failures;
      taken = reading.reading.taken;
      asked = reading.asked;
      asked_of_line = tt;
    })

pub returns : goal.returns
returns g c =
    let front = c.in_ok-first.field-0 in
    let reading = c.in_ok-first.ensures.reading in
    record {
      begun = record { shows = (refl, c.new.ensures, refl); entries = refl; skipped = refl; first = c.in_ok-first.ensures.front.first };
      bytes = λ bytes known. let n = c.in_ok-first.ensures.bytes bytes known in (n.0, n.1, (front.edges.items, n.2));
      streams = record { fault = tt; failures = reading.reading.failures; taken = reading.reading.taken; asked = reading.asked; asked_of_line = reading.asked_of_line };
    }
