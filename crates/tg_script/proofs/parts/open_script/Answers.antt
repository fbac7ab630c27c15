use Rattle.std.proofs.Common.{Some, refl}
use Rattle.tg_script.specs.Script.{start_of_setup}
use Rattle.tg_script.proofs.LinesLaws.{err_is}
use Rattle.tg_script.proofs.RanLaws.{ran_unbegun}
use Rattle.tg_script.proofs.RunPartLaws.{after_edges}
use Rattle.tg_script.proofs.parts.open_script.Goals as goal

pub returns-in_err-run-clause-bytes : goal.returns-in_err-run-clause-bytes
returns-in_err-run-clause-bytes g c = λ bytes known.
    let n = c.in_err-run.ensures.bytes bytes known in
    rw (err_is c.from_residual.result _ c.from_residual.ensures.1)
    (n.0, n.1, λ before. ran_unbegun (Unit {0}) c.in_err-run.field-0.0 (start_of_setup c.args.setup) bytes before n.0 (Some before) n.2 refl)

pub returns-in_err-run-clause-due : goal.returns-in_err-run-clause-due
returns-in_err-run-clause-due g c = rw (err_is c.from_residual.result _ c.from_residual.ensures.1) c.in_err-run.ensures.streams.due

pub returns : goal.returns
returns g c =
    let begun = c.in_ok-run.field-0 in
    let is = c.in_ok-run.ensures.begun in
    record {
      opened = record {
        can = is.can;
        opening = is.opening;
        graph = is.shows.0;
        none = is.none;
        stock = is.shows.1;
        helpers = is.shows.2;
        waits = is.first;
      };
      bytes = λ bytes known.
          let n = c.in_ok-run.ensures.bytes bytes known in
          (n.0, n.1, after_edges c.args.setup.settings.workers bytes n.0 begun.run.store.opening.plan.edges begun.first begun.script is.first n.2);
      due = tt;
    }
