use Rattle.std.proofs.Common.{◌∙◌, sym, ap, Ok, Err}
use Rattle.std.proofs.lemmas.Result.{err_from_is_err_and}
use Rattle.tg_c.specs.Ending.{Departs}
use Rattle.tg_c.specs.Statuses.{of_apply, refused_as}
use Rattle.tg_c.proofs.CallLaws.{served}
use Rattle.tg_c.proofs.ending.leave.Goals as goal

pub returns-in_err-count : goal.returns-in_err-count
returns-in_err-count c =
    let given = err_from_is_err_and c.from_residual.result c.from_residual.ensures.1 in
    let told = c.leave-count.ensures in
    served of_apply (Departs c.args.worker) c.args.place.now c.put.new.self c.from_residual.result
    c.deref_mut.result.now.store c.leave-count.new.self c.leave-count.result
    c.in-Some.ensures.taken.0 c.put.ensures.open (sym (ap (λ s. s.store) (c.deref_mut.ensures.value ∙ c.in-Some.ensures.taken.1))) (ap (λ s. s.store) c.put.ensures.opened)
    (given.1 ∙ ap Err given.2 ∙ sym (ap (λ a. refused_as of_apply a) c.in_err-count.was)) (record {
      left = told.left;
      count = told.count;
      no_such_worker = told.no_such_worker;
      never_full = told.never_full;
      refused = told.refused;
    })

pub returns : goal.returns
returns c =
    let told = c.leave-count.ensures in
    served of_apply (Departs c.args.worker) c.args.place.now c.put.new.self (Ok c.in_ok-count.field-0)
    c.deref_mut.result.now.store c.leave-count.new.self c.leave-count.result
    c.in-Some.ensures.taken.0 c.put.ensures.open (sym (ap (λ s. s.store) (c.deref_mut.ensures.value ∙ c.in-Some.ensures.taken.1))) (ap (λ s. s.store) c.put.ensures.opened)
    (sym (ap (λ a. refused_as of_apply a) c.in_ok-count.was)) (record {
      left = told.left;
      count = told.count;
      no_such_worker = told.no_such_worker;
      never_full = told.never_full;
      refused = told.refused;
    })
