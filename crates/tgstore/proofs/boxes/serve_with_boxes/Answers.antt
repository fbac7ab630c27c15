use Rattle.std.proofs.Common.{refl}
use Rattle.tgstore.proofs.ServingLaws.{served_none, wanting, wanting_status, wanting_unfailed}
use Rattle.tgstore.proofs.boxes.serve_with_boxes.Goals as goal

pub returns-in_err-workers : goal.returns-in_err-workers
returns-in_err-workers g c =
    let is = wanting c.from_residual.result c.from_residual.ensures.1 in
    record {
      served = record {
        status = wanting_status c.from_residual.result is;
        output = λ bytes before left taken. (bytes, left, served_none c.args.start.now bytes before c.from_residual.result bytes _ is refl taken);
      };
      seen = wanting_unfailed c.from_residual.result _ is;
    }

pub returns-in_err-stock : goal.returns-in_err-stock
returns-in_err-stock g c =
    let is = wanting c.from_residual-in_err-stock.result c.from_residual-in_err-stock.ensures.1 in
    record {
      served = record {
        status = wanting_status c.from_residual-in_err-stock.result is;
        output = λ bytes before left taken. (bytes, left, served_none c.args.start.now bytes before c.from_residual-in_err-stock.result bytes _ is refl taken);
      };
      seen = wanting_unfailed c.from_residual-in_err-stock.result _ is;
    }
