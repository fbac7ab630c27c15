use Rattle.std.proofs.Common.{◌∙◌, sym, ap, Ok, Err}
use Rattle.std.proofs.lemmas.Result.{err_from_is_err_and}
use Rattle.tg_c.specs.Handing.{IsHandAnswered}
use Rattle.tg_c.specs.Statuses.{of_apply, refused_as}
use Rattle.tg_c.proofs.CallLaws.{served}
use Rattle.tg_c.proofs.handing.hand_on.Goals as goal

pub returns-in_err-handed : goal.returns-in_err-handed
returns-in_err-handed c =
    let given = err_from_is_err_and c.from_residual.result c.from_residual.ensures.1 in
    let told = c.hand-handed.ensures in
    served of_apply (IsHandAnswered c.args.hand) c.args.place.now c.put.new.self c.from_residual.result
    c.deref_mut.result.now.store c.hand-handed.new.self c.hand-handed.result
    c.in-Some.ensures.taken.0 c.put.ensures.open (sym (ap (λ s. s.store) (c.deref_mut.ensures.value ∙ c.in-Some.ensures.taken.1))) (ap (λ s. s.store) c.put.ensures.opened)
    (given.1 ∙ ap Err given.2 ∙ sym (ap (λ a. refused_as of_apply a) c.in_err-handed.was)) (record {
      comes = told.comes;
      no_such_worker = told.no_such_worker;
      full = told.full;
      refused = told.refused;
    })

pub returns : goal.returns
returns c =
    let told = c.hand-handed.ensures in
    served of_apply (IsHandAnswered c.args.hand) c.args.place.now c.put.new.self (Ok c.in_ok-handed.field-0)
    c.deref_mut.result.now.store c.hand-handed.new.self c.hand-handed.result
    c.in-Some.ensures.taken.0 c.put.ensures.open (sym (ap (λ s. s.store) (c.deref_mut.ensures.value ∙ c.in-Some.ensures.taken.1))) (ap (λ s. s.store) c.put.ensures.opened)
    (sym (ap (λ a. refused_as of_apply a) c.in_ok-handed.was)) (record {
      comes = told.comes;
      no_such_worker = told.no_such_worker;
      full = told.full;
      refused = told.refused;
    })
