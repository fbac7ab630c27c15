use Rattle.std.proofs.Common.{rules}
use Rattle.tg_store.specs.declared.fault.ApplyFault.TheVariants.{NoSuchWorker}
use Rattle.tg_shared.proofs.Calls.{ok_not_err}
use Rattle.tg_shares.proofs.metered.Metered.leave.Goals as goal

pub returns-in-Ok-leave-clause-leaves : goal.returns-in-Ok-leave-clause-leaves
returns-in-Ok-leave-clause-leaves g c =
    let told = c.in-Ok-leave.ensures in
    record {
      left = told.ended.left;
      count = λ graph stands. told.ended.count graph stands;
      receipts = told.noted.receipts;
      paid = search rules;
      lacks = λ graph why stands is. let no : ⊥ = cc in absurd no;
      no_such_worker = λ graph stands. ((λ is. let no : ⊥ = cc in absurd no), (λ none. absurd (ok_not_err c.in-Ok-leave.count NoSuchWorker ((told.ended.no_such_worker graph stands).1 none))));
      never_full = λ is. cc;
      refused = tt;
    }
