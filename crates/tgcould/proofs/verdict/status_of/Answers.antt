use Rattle.std.proofs.lemmas.Result.{IfOk-weaker}
use Rattle.tgcould.proofs.verdict.status_of.Goals as goal

pub returns : goal.returns
returns g c =
    let options = c.read_options.result in
    IfOk-weaker c.status_given.result _ _
    (λ status is. record {
      options = options;
      known = is.0;
      stock = c.read_options.ensures.stock;
      kept = c.read_options.ensures.kept;
      given = is.1;
      verdict = is.2;
    })
    c.status_given.ensures
